-- What is written of dates, and of records with one, at each depth that holds them.
use Rattle.std.proofs.Common.{◌≡◌, ◌≤◌, ℕ, zero, suc, pos, List, [], ◌∷◌, Option, Some, None, arith, refl}
use Rattle.rasn_below.specs.Values.{Value, day, sequence_value}
use Rattle.rasn_below.specs.Types.{sequence_at, normal, settle, Schema, date_at}
use Rattle.per_core.specs.Rows.{Variant, aligned, unaligned, bytes}
use Rattle.per_samples_sets.specs.Dnests.{dnest}

-- a date at each depth of two levels or more
pub at_depths : (a : Variant) (v : Value) (octets : List ℕ) → bytes a Schema.date (normal Schema.date v) ≡ Some octets → (n : ℕ) → 2 ≤ n
    → bytes a (date_at n) (normal (date_at n) v) ≡ Some octets
at_depths a v octets e zero h = absurd (omega arith)
at_depths a v octets e (suc zero) h = absurd (omega arith)
at_depths a v octets e (suc (suc n)) h = e

pub near : bytes unaligned Schema.date (normal Schema.date (day (pos 2010) 1 1)) ≡ Some (0x14 ∷ 0x00 ∷ [])
unfolding bytes normal
near = refl

pub later : bytes unaligned Schema.date (normal Schema.date (day (pos 2024) 2 29)) ≡ Some (0x40 ∷ 0xc7 ∷ 0x80 ∷ [])
unfolding bytes normal
later = refl

pub aligned_later : bytes aligned Schema.date (normal Schema.date (day (pos 2024) 2 29)) ≡ Some (0x40 ∷ 0x03 ∷ 0x1e ∷ 0x00 ∷ [])
unfolding bytes normal
aligned_later = refl

pub other : bytes unaligned Schema.date (normal Schema.date (day (pos 1500) 6 15)) ≡ Some (0xc0 ∷ 0x81 ∷ 0x77 ∷ 0x15 ∷ 0xc0 ∷ [])
unfolding bytes normal
other = refl

-- a record of two components, each absent or there
abbrev both : Option Value → Option Value → Value
both r s = sequence_value (r ∷ s ∷ [])

pub nothing_there : (n : ℕ) → 1 ≤ n → bytes unaligned (sequence_at dnest n) (normal (sequence_at dnest n) (both None None)) ≡ Some (0x00 ∷ [])
unfolding bytes normal settle
nothing_there zero h = absurd (omega arith)
nothing_there (suc n) h = refl

pub one_inside : (n : ℕ) → 4 ≤ n
    → bytes unaligned (sequence_at dnest n) (normal (sequence_at dnest n) (both (Some (both None (Some (day (pos 2010) 1 1)))) None)) ≡ Some (0x91 ∷ 0x40 ∷ 0x00 ∷ [])
unfolding bytes normal settle
one_inside zero h = absurd (omega arith)
one_inside (suc zero) h = absurd (omega arith)
one_inside (suc (suc zero)) h = absurd (omega arith)
one_inside (suc (suc (suc zero))) h = absurd (omega arith)
one_inside (suc (suc (suc (suc n)))) h = refl

pub beside_one : (n : ℕ) → 3 ≤ n
    → bytes aligned (sequence_at dnest n) (normal (sequence_at dnest n) (both (Some (both None None)) (Some (day (pos 2024) 2 29)))) ≡ Some (0xc4 ∷ 0x03 ∷ 0x1e ∷ 0x00 ∷ [])
unfolding bytes normal settle
beside_one zero h = absurd (omega arith)
beside_one (suc zero) h = absurd (omega arith)
beside_one (suc (suc zero)) h = absurd (omega arith)
beside_one (suc (suc (suc n))) h = refl
