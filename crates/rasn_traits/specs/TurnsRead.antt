-- What is read in an open scope, whatever it is, and what closing one owes where not as much came as is due, stated
-- over any decoder's relations.
use Rattle.std.specs.Prelude.{◌≡◌, Bool, Option, Result, IsErrAnd}
use Rattle.rasn_types.specs.Values.{Value}
use Rattle.rasn_schema.specs.Schemas.{Schema}
use Rattle.rasn_traits.specs.Amounts.{Amount, no_amount, with_addition, with_bit, with_component}
use Rattle.rasn_traits.specs.Calls.{DecoderRules}

-- So much was read, one after another: values of any schemas, presence bits, and additions, there or not.
pub data CameRead {E S : Type 0} (rules : DecoderRules E S) : Amount → S → S → Type 0 where
  read_nothing : {s : S} → CameRead rules no_amount s s
  read_value : {a : Amount} {c : Schema} {v : Value} {s m t : S} → rules.spells c s v m → CameRead rules a m t
      → CameRead rules (with_component a) s t
  read_bit : {a : Amount} {b : Bool} {s m t : S} → rules.marks s b m → CameRead rules a m t
      → CameRead rules (with_bit b a) s t
  read_addition : {a : Amount} {c : Schema} {r : Option Value} {s m t : S} → rules.adds c s r m → CameRead rules a m t
      → CameRead rules (with_addition a) s t

-- Where another amount was read than is due, closing the scope is refused.
abbrev pub RefusesOtherRead : {E S : Type 0} → DecoderRules E S → Amount → S → Result (Unit {0}) E → Type 0
RefusesOtherRead {S = S} rules due j result = (i : S) (came : Amount) → rules.awaits due i → CameRead rules came i j
    → (came ≡ due → ⊥) → IsErrAnd result (λ e. rules.untimely e j)

-- Where a list is still open that was opened in a scope which counts what comes, closing the scope is refused.
abbrev pub RefusesInList : {E S : Type 0} → DecoderRules E S → S → Result (Unit {0}) E → Type 0
RefusesInList {S = S} rules j result = (i s : S) (due came : Amount) → rules.awaits due i → CameRead rules came i s
    → rules.amidst s j → IsErrAnd result (λ e. rules.untimely e j)

-- Where a record is still open in which nothing is counted, closing a scope that counts what comes is refused.
abbrev pub RefusesInFields : {E S O : Type 0} → DecoderRules E S → (Schema → S → O → S → Type 0) → S
    → Result (Unit {0}) E → Type 0
RefusesInFields {S = S} {O = O} rules opens_fields j result = (c : Schema) (s i : S) (o : O) (came : Amount)
    → opens_fields c s o i → CameRead rules came i j → IsErrAnd result (λ e. rules.untimely e j)
