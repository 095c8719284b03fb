-- Which types keep to the numbers of an i128.
use Rattle.std.proofs.Common.{◌≡◌, refl, ℕ, zero, suc, Bool, true, false, not, ◌&&◌, ◌||◌, List, Option}
use Rattle.rasn_constraints.specs.Bounds.{Bounds, Size}
use Rattle.rasn_schema.specs.Choices.{VariantShape, choice_at}
use Rattle.rasn_schema.specs.Lists.{list_at}
use Rattle.rasn_schema.specs.Records.{record_at}
use Rattle.rasn_schema.specs.Schemas.{Order, Parts, Schema}
use Rattle.per_core.specs.WritingFaults.{has_bound}
use Rattle.per_versions.specs.NumbersKept.{KeepsToI128, are_in_i128, ends_in_i128, keep_to_i128, keeps_to_i128, starts_in_i128}

both : (b c : Bool) → b ≡ true → c ≡ true → (b && c) ≡ true
both b c e f = cc

second : (b c : Bool) → c ≡ true → (b || c) ≡ true
second true c e = refl
second false c e = e

first : (b c : Bool) → b ≡ true → (b || c) ≡ true
first b c e = cc

kept : (bounds range : Bounds) (mark : Bool) → are_in_i128 bounds range ≡ true → keeps_to_i128 (Schema.number bounds mark range) ≡ true
unfolding keeps_to_i128
kept bounds range mark e = second (not mark) (not (has_bound bounds) || are_in_i128 bounds range) (second (not (has_bound bounds)) (are_in_i128 bounds range) e)

pub held : (bounds range : Bounds) (mark : Bool) → starts_in_i128 range.low ≡ true → ends_in_i128 range.high ≡ true → keeps_to_i128 (Schema.number bounds mark range) ≡ true
held bounds range mark e f = kept bounds range mark (both (starts_in_i128 bounds.low || starts_in_i128 range.low) (ends_in_i128 bounds.high || ends_in_i128 range.high)
    (second (starts_in_i128 bounds.low) (starts_in_i128 range.low) e) (second (ends_in_i128 bounds.high) (ends_in_i128 range.high) f))

pub bounded : (bounds range : Bounds) (mark : Bool) → starts_in_i128 bounds.low ≡ true → ends_in_i128 bounds.high ≡ true → keeps_to_i128 (Schema.number bounds mark range) ≡ true
bounded bounds range mark e f = kept bounds range mark (both (starts_in_i128 bounds.low || starts_in_i128 range.low) (ends_in_i128 bounds.high || ends_in_i128 range.high)
    (first (starts_in_i128 bounds.low) (starts_in_i128 range.low) e) (first (ends_in_i128 bounds.high) (ends_in_i128 range.high) f))

pub record_kept : (o : Order) (parts additions : ℕ → Parts) (extensible : Bool) → ((n : ℕ) → keep_to_i128 (parts n) ≡ true) → ((n : ℕ) → keep_to_i128 (additions n) ≡ true) → KeepsToI128 (record_at o parts extensible additions)
unfolding keeps_to_i128
record_kept o parts additions extensible h k zero = refl
record_kept o parts additions extensible h k (suc n) = both (keep_to_i128 (parts n)) (keep_to_i128 (additions n)) (h n) (k n)

pub list_kept : (element : ℕ → Schema) (size : Size) (mark : Bool) → KeepsToI128 element → KeepsToI128 (list_at element size mark)
unfolding keeps_to_i128
list_kept element size mark h zero = refl
list_kept element size mark h (suc n) = h n

pub choice_kept : (alternatives behind : ℕ → Parts) (extensible : Option (List VariantShape)) → ((n : ℕ) → keep_to_i128 (alternatives n) ≡ true) → ((n : ℕ) → keep_to_i128 (behind n) ≡ true) →
    KeepsToI128 (choice_at alternatives extensible behind)
unfolding keeps_to_i128
choice_kept alternatives behind extensible h k zero = refl
choice_kept alternatives behind extensible h k (suc n) = both (keep_to_i128 (alternatives n)) (keep_to_i128 (behind n)) (h n) (k n)
