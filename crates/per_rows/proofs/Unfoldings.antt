-- Lawful types of any depth: a recursive record, and one whose default is such a record of 200 levels.
use Rattle.std.proofs.Common.{◌≡◌, refl, ap, ℕ, zero, suc, Bool, true, false, ◌||◌, ◌&&◌}
use Rattle.rasn_types.specs.Values.{Value, fields, Slots, no_slots, absent, there}
use Rattle.rasn_schema.specs.Depth.{CutOf, cut_here, cut_sequence, cut_part, no_cut, meets_cut}
use Rattle.rasn_schema.specs.Forms.{always, simple_unfolds}
use Rattle.rasn_schema.specs.Lawful.{IsLawful, IsLawfulType, is_value}
use Rattle.rasn_schema.specs.Normal.{normal}
use Rattle.rasn_schema.specs.Schemas.{Schema}
use Rattle.per_rows.specs.Samples.{nest, nested, deep}

pub boolean_is_lawful : IsLawfulType (always Schema.boolean)
unfolding IsLawful
boolean_is_lawful = record { unfolds = simple_unfolds Schema.boolean tt; lawful = λ n. tt }

-- Nest: its trees are cut off one by one, and a value is whole in a tree of as many levels
nest_grows : (n : ℕ) → CutOf (nest n) (nest (suc n))
nest_grows zero = cut_here
nest_grows (suc n) = cut_sequence (cut_part (nest_grows n) no_cut) no_cut

or_false : (b : Bool) → b ≡ false → (b || false) ≡ false
or_false false e = refl
or_false true e = e

mutual
  unfolding meets_cut

  nest_holds : (v : Value) → (n : ℕ) × (meets_cut (nest n) v ≡ false)
  nest_holds (fields r x) = slot_holds r x
  nest_holds _ = (1, refl)

  slot_holds : (r x : Slots) → (n : ℕ) × (meets_cut (nest n) (fields r x) ≡ false)
  slot_holds no_slots x = (1, refl)
  slot_holds (absent r) x = (1, refl)
  slot_holds (there v r) x = let h = nest_holds v in (suc h.0, or_false (meets_cut (nest h.0) v || false) (or_false (meets_cut (nest h.0) v) h.1))

nest_lawful : (n : ℕ) → IsLawful (nest n)
unfolding IsLawful
nest_lawful zero = tt
nest_lawful (suc n) = (record { root_groups = refl; few_bits = refl; lawful_tags = refl }, (tt, nest_lawful n, tt), tt)

pub nest_is_lawful : IsLawfulType nest
nest_is_lawful = record { unfolds = record { grows = nest_grows; holds = nest_holds }; lawful = nest_lawful }

-- the default is a value wherever it is whole, and in normal form
or_first : (b : Bool) → (b || false) ≡ false → b ≡ false
or_first false e = refl
or_first true e = e

nested_value : (n k : ℕ) → meets_cut (nest n) (nested k) ≡ false → is_value (nest n) (nested k) ≡ true
unfolding meets_cut is_value
nested_value zero k m = absurd (cc)
nested_value (suc n) zero m = refl
nested_value (suc n) (suc k) m =
    let h = nested_value n k (or_first (meets_cut (nest n) (nested k)) (or_first (meets_cut (nest n) (nested k) || false) m)) in
    ap (λ b. (b && true) && true) h

nested_normal : (n k : ℕ) → normal (nest n) (nested k) ≡ nested k
unfolding normal
nested_normal zero k = refl
nested_normal (suc n) zero = refl
nested_normal (suc n) (suc k) = ap (λ v. fields (there v no_slots) no_slots) (nested_normal n k)

deep_grows : (n : ℕ) → CutOf (deep n) (deep (suc n))
deep_grows zero = cut_here
deep_grows (suc n) = cut_sequence (cut_part (nest_grows n) no_cut) no_cut

deep_holds : (v : Value) → (n : ℕ) × (meets_cut (deep n) v ≡ false)
unfolding meets_cut
deep_holds (fields no_slots x) = (1, refl)
deep_holds (fields (absent r) x) = (1, refl)
deep_holds (fields (there v r) x) = let h = nest_holds v in (suc h.0, or_false (meets_cut (nest h.0) v || false) (or_false (meets_cut (nest h.0) v) h.1))
deep_holds _ = (1, refl)

deep_lawful : (n : ℕ) → IsLawful (deep n)
unfolding IsLawful
deep_lawful zero = tt
deep_lawful (suc n) = (
  record { root_groups = refl; few_bits = refl; lawful_tags = refl },
  (record { is_of_kind = nested_value n 199; is_normal = λ m. nested_normal n 199 }, nest_lawful n, tt),
  tt,
)

pub deep_is_lawful : IsLawfulType deep
deep_is_lawful = record { unfolds = record { grows = deep_grows; holds = deep_holds }; lawful = deep_lawful }
