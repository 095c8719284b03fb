-- What opening octets that contain a value takes, and why it refuses.
use Rattle.std.proofs.Common.{◌≡◌, ◌⊎◌, inl, inr, refl, sym, ◌∙◌, ap, subst, false}
use Rattle.std.specs.Prelude.{Result, Ok, Err}
use Rattle.rasn_schema.specs.Schemas.{Schema}
use Rattle.rasn_traits.specs.Calls.{Refuses}
use Rattle.rasn_traits.specs.Contents.{OpenedContentsToRead}
use Rattle.per_core.specs.Basic.{Fills, Octets, basic}
use Rattle.per_core.specs.Spellings.{NoneIn}
use Rattle.per_read.proofs.OfFields.{unconstrained_tested}
use Rattle.per_core.specs.declared.decode_error.DecodeError.{DecodeError}
use Rattle.per_core.specs.declared.decode_error.DecodeErrorKind.{DecodeErrorKind}
use Rattle.per_core.specs.declared.decode_error.DecodeErrorKind.TheVariants.{OutOfMemory}
use Rattle.per_read.proofs.Opened.{no_open}
use Rattle.per_decoding.specs.Faults.{Fault, refusal}
use Rattle.per_core.specs.ReadingFaults.{in_containing, in_octets}
use Rattle.per_decoding.proofs.Scoping.Contents.{took_containing}
use Rattle.per_decoding.proofs.Scoping.Records.{of_bits}
use Rattle.per_decoding.proofs.Scoping.Tails.{tested_new}
use Rattle.per_decoding.specs.Rules.{plain_rules}
use Rattle.per_decoding.specs.State.{State, Spells, settings_of}
use Rattle.per_de.specs.InTurn.{Owes, are_open}
use Rattle.per_de.specs.Steps.{EntersOpen, IsOfOctets, RefusedAs}
use Rattle.per_de.specs.declared.Addition.{Addition}

-- no octets are at the front
pub no_octets : (s : State) (e : DecodeError) (t : State) → RefusedAs (IsOfOctets s) s e t
    → (e ≡ refusal OutOfMemory s) ⊎ ((c : Schema) → Refuses (Spells (Schema.containing c)) (Fault (Schema.containing c)) e s)
no_octets s e t h = go h.kind h.is h.because
  where
    go : (d : DecodeErrorKind) → e ≡ refusal d s → IsOfOctets s d
        → (e ≡ refusal OutOfMemory s) ⊎ ((c : Schema) → Refuses (Spells (Schema.containing c)) (Fault (Schema.containing c)) e s)
    go d i (inl o) = inl (i ∙ ap (λ z. refusal z s) o)
    go d i (inr o) = inr (λ c. record {
      nothing = λ v y b. no_open (settings_of s) (Fills (settings_of s) (basic (settings_of s) c v)) o.1 y.bits (took_containing (settings_of s) c v b.took);
      stands = subst (λ z. Fault (Schema.containing c) z s) (sym i) (record {
        codec = refl;
        stands = of_bits d (Schema.containing c) s (tested_new d (unconstrained_tested d o.0)) (in_containing (in_octets o.0 o.1));
      });
    })

-- an open type is entered as what contains a value
pub contents_opened : (s i : State) (result : Result Addition DecodeError) → s.failed ≡ false → EntersOpen s result i → Owes (OpenedContentsToRead plain_rules are_open s result i) s result i
contents_opened s i (Ok o) live h = record {
  law = record { live = live; opens = h };
  behaves = record { again = λ f. absurd cc; fails = tt; kept = ap (λ z. z.codec) h.enters.same };
}
contents_opened s i (Err e) live h = record {
  law = no_octets s e i h;
  behaves = record { again = λ f. absurd cc; fails = h.failed; kept = h.codec };
}
