-- Texts (X.691 30.6).
use Rattle.std.proofs.Common.{◌≡◌, ◌∙◌, ℕ, List, true, false, sym, ap}
use Rattle.rasn_types.specs.Bits.{Bits}
use Rattle.rasn_types.specs.Contents.{TextKind, is_text}
use Rattle.per_core.specs.Basic.{Octets, Proper}
use Rattle.per_core.specs.Spellings.{Settings, Took, NoneIn}
use Rattle.per_core.proofs.LengthForms.{same_octets}
use Rattle.per_core.proofs.TakenInTurn.{took_map, took_agree}
use Rattle.per_core.specs.BitFieldFaults.{IsOfUnconstrained}
use Rattle.per_core.specs.SizeFaults.{IsNoText, IsOfText}
use Rattle.per_core.specs.declared.decode_error.DecodeErrorKind.{DecodeErrorKind}
use Rattle.per_core.specs.declared.decode_error.DecodeErrorKind.TheVariants.{StringConversionFailed}
use Rattle.per_read.proofs.Fields.{when_took}
use Rattle.per_read.proofs.OfFields.{unconstrained_tested}

-- what a kind says of the octets of a text
pub octets_text : (a : Settings) (kind : TextKind) (s : Bits) (k : DecodeErrorKind) → IsOfUnconstrained a 8 s k → IsOfText a kind s k
octets_text a kind s StringConversionFailed h = absurd (unconstrained_tested StringConversionFailed h)
octets_text a kind s _ h = h

module _ (a : Settings) (kind : TextKind) where
  pub none_of_text : {s : Bits} → NoneIn (Octets a) s → NoneIn (Proper (is_text kind) (Octets a)) s
  none_of_text none os t b = none os t (when_took b).1

  pub text_took : {os : List ℕ} {s t : Bits} → is_text kind os ≡ true → Took (Octets a os) s t → Took (Proper (is_text kind) (Octets a) os) s t
  text_took e b = took_map (λ p c h. (e, h)) b

  pub no_text : (os : List ℕ) {s t : Bits} → Took (Octets a os) s t → is_text kind os ≡ false → IsNoText a kind s × NoneIn (Proper (is_text kind) (Octets a)) s
  no_text os {s} {t} b e = (
    record { octets = os; rest = t; took = b; no_text = e },
    λ xs u c.
        let q = when_took c in
        let i : xs ≡ os = (took_agree (same_octets a xs os) q.1 b).0 in
        let j : true ≡ false = sym q.0 ∙ ap (is_text kind) i ∙ e in cc,
  )
