-- What the calls for dates, identifiers and times read, and why they refuse.
use Rattle.std.proofs.Common.{◌≡◌, ◌⊎◌, ◌<◌, ◌≤◌, refl, sym, subst, ℕ, zero, suc, List, arith}
use Rattle.std.specs.Prelude.{Result}
use Rattle.rasn_types.specs.Bits.{Bits}
use Rattle.rasn_types.specs.Contents.{TimeKind}
use Rattle.rasn_types.specs.Values.{Value, characters, octets}
use Rattle.rasn_schema.specs.Schemas
use Rattle.rasn_schema.specs.Schemas.{Schema}
use Rattle.rasn_traits.specs.Calls.{Reads, Refuses}
use Rattle.rasn_traits.specs.Moments.{date_at}
use Rattle.per_core.specs.Basic.{basic, basic_in}
use Rattle.per_core.specs.Spellings.{Settings, Took, NoneIn}
use Rattle.per_core.proofs.TakenInTurn.{took_map}
use Rattle.per_read.specs.Kinds.{Faulty}
use Rattle.per_core.specs.TimeFaults.{IsOfIdentifier, IsOfTime}
use Rattle.per_decoding.specs.Times.{identifier_form, time_form}
use Rattle.per_core.specs.declared.decode_error.DecodeError.{DecodeError}
use Rattle.per_core.specs.declared.decode_error.DecodeErrorKind.{DecodeErrorKind}
use Rattle.per_core.specs.declared.decode_error.DecodeErrorKind.TheVariants.{ExceedsMaxParseDepth, OutOfMemory}
use Rattle.per_read.proofs.Refusals.{faulty_map}
use Rattle.per_decoding.specs.Faults.{Fault, refusal}
use Rattle.per_core.specs.ReadingFaults.{IsAt}
use Rattle.per_decoding.specs.Rules.{plain_rules}
use Rattle.per_decoding.specs.State.{Spells, State}
use Rattle.per_de.proofs.Calls.{too_deep}

module _ (a : Settings) where
  -- OBJECT IDENTIFIER
  pub reads_identifier : (os : List ℕ) {s t : Bits} → Took (identifier_form a os) s t → Took (basic a Schemas.identifier (octets os)) s t
  unfolding basic_in
  reads_identifier os b = took_map (λ p c i. record { of = os; is = refl; spelled = i }) b

  pub faulty_identifier : (s : Bits) (k : DecodeErrorKind) → Faulty (IsOfIdentifier a s) (NoneIn (identifier_form a) s) k → Faulty (IsAt a Schemas.identifier s) (NoneIn (basic a Schemas.identifier) s) k
  unfolding basic_in
  faulty_identifier s k = faulty_map k (λ h. h) (λ none v t b. none b.spelled.of t (record { front = b.front; joins = b.joins; spelled = b.spelled.spelled }))

  -- UTCTime and GeneralizedTime
  module _ (kind : TimeKind) where
    pub reads_time : (cs : List ℕ) {s t : Bits} → Took (time_form a kind cs) s t → Took (basic a (Schemas.time kind) (characters cs)) s t
    unfolding basic_in
    reads_time cs b = took_map (λ p c i. record { of = cs; is = refl; spelled = i }) b

    pub faulty_time : (s : Bits) (k : DecodeErrorKind) → Faulty (IsOfTime a kind s) (NoneIn (time_form a kind) s) k → Faulty (IsAt a (Schemas.time kind) s) (NoneIn (basic a (Schemas.time kind)) s) k
    unfolding basic_in
    faulty_time s k = faulty_map k (λ h. h) (λ none v t b. none b.spelled.of t (record { front = b.front; joins = b.joins; spelled = b.spelled.spelled }))

-- DATE to so many levels
date_whole : (n : ℕ) → 2 ≤ n → date_at n ≡ Schemas.date
date_whole zero h = absurd (omega arith)
date_whole (suc zero) h = absurd (omega arith)
date_whole (suc (suc n)) h = refl

date_cut : (n : ℕ) → n < 2 → date_at n ≡ Schemas.cut
date_cut zero h = refl
date_cut (suc zero) h = refl
date_cut (suc (suc n)) h = absurd (omega arith)

-- with fewer than two levels left no DATE is read
pub date_too_deep : (s : State) (e : DecodeError) → s.levels < 2 → e ≡ refusal ExceedsMaxParseDepth s
    → let c = date_at s.levels in (e ≡ refusal OutOfMemory s) ⊎ Refuses (Spells c) (Fault c) e s
date_too_deep s e h i = too_deep (λ n. date_at s.levels) s e 0 (date_cut s.levels h) refl i

-- with two levels left a DATE is read
pub date_within : {D : Type 0} (value : D → Value) (s : State) (result : Result D DecodeError) (t : State) → 2 ≤ s.levels
    → Reads plain_rules Schemas.date value s result t → Reads plain_rules (date_at s.levels) value s result t
date_within value s result t h = subst (λ (c : Schema). Reads plain_rules c value s result t) (sym (date_whole s.levels h))
