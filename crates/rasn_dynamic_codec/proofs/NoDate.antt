-- Days at each depth that holds them, and values that are none.
use Rattle.std.proofs.Common.{◌≡◌, refl, sym, ap, ◌∙◌, ℕ, zero, suc, ◌≤◌, Bool, true, false, List, [], ◌∷◌, map, length, Option, Some, None, Result, arith}
use Rattle.std.specs.Prelude.{◌==◌, ◌&&◌}
use Rattle.jiff.specs.Types.{Date as Day}
use Rattle.rasn_types.specs.Values
use Rattle.rasn_types.specs.Values.{Value as Content}
use Rattle.rasn_schema.specs.Normal.{normal}
use Rattle.rasn_schema.specs.Structures.{record_value, is_of_kind}
use Rattle.rasn_schema.specs.Schemas
use Rattle.rasn_strings.specs.Values.{date_value}
use Rattle.rasn_traits.specs.Calls.{Encodes, EncoderRules, Writes, Written}
use Rattle.rasn_traits.specs.Moments.{date_at}
use Rattle.rasn_dynamic.specs.declared.values.Value.{Value}
use Rattle.rasn_dynamic.specs.declared.values.Value.TheOpen.{Date}
use Rattle.rasn_dynamic.specs.declared.values.Value.TheViews.{roll-Value}
use Rattle.rasn_dynamic.specs.declared.values.Value.TheFolds.{fold-roll-Value}
use Rattle.rasn_dynamic.specs.Values.{levels_of, levels_step, NotDate, NotFields, slot_of, slot_step, there, value_of}
use Rattle.rasn_dynamic.proofs.Places.{no_fields}

-- a day takes two levels
date_levels : (v : Value) (d : Day) → v ≡ roll-Value (Date d) → levels_of v ≡ 2
date_levels v d e = ap levels_of e ∙ fold-roll-Value ℕ levels_step (Date d)

date_there : (v : Value) (d : Day) → v ≡ roll-Value (Date d) → value_of v ≡ date_value d
date_there v d e = ap value_of e ∙ ap there (fold-roll-Value (Option Content) slot_step (Date d))

module _ {E X : Type 0} {rules : EncoderRules E X} where
  -- what is written of a day is written at each depth that holds it
  day_written : (k : ℕ) (v : Content) (x : X) (r : Result (Unit {0}) E) (y : X) → k ≡ 2 → Writes rules Schemas.date v x r y → Encodes rules date_at k v x r y
  unfolding normal
  day_written k v x r y e h = record { law = record { at = λ n le. deep n (omega (arith, e, le)) }; behaves = h.behaves }
    where
      deep : (n : ℕ) → 2 ≤ n → Written rules (date_at n) (normal (date_at n) v) x r y
      deep zero le = absurd (omega (arith, le))
      deep (suc zero) le = absurd (omega (arith, le))
      deep (suc (suc n)) le = h.law

  pub day_encoded : (v : Value) (d : Day) (x : X) (r : Result (Unit {0}) E) (y : X) → v ≡ roll-Value (Date d) → Writes rules Schemas.date (date_value d) x r y
      → Encodes rules date_at (levels_of v) (value_of v) x r y
  day_encoded v d x r y e h = rw (date_there v d e) (day_written (levels_of v) (date_value d) x r y (date_levels v d e) h)

-- what is neither a day nor a record that holds nothing
pub no_day : (v : Content) → NotDate v → is_of_kind Schemas.cut v ≡ false → (n : ℕ) → is_of_kind (date_at n) (normal (date_at n) v) ≡ false
unfolding normal
no_day v d c zero = c
no_day v d c (suc zero) = c
no_day v d c (suc (suc n)) = d

pub no_cut : (v : Content) → NotFields v → is_of_kind Schemas.cut v ≡ false
no_cut (Values.fields rs xs) h = absurd (no_fields rs xs true (λ ps qs. h Schemas.listed ps qs true))
no_cut v h = refl

first_there : (s : Option Content) (os ps : List (Option Content)) → is_of_kind Schemas.cut (record_value (s ∷ os) ps) ≡ false
first_there None os ps = refl
first_there (Some v) os ps = refl

after_there : (s : Option Content) (ps : List (Option Content)) → is_of_kind Schemas.cut (record_value [] (s ∷ ps)) ≡ false
after_there None ps = refl
after_there (Some v) ps = refl

held : (rs xs : List Value) → ((length rs == 0) && (length xs == 0)) ≡ false → is_of_kind Schemas.cut (record_value (map slot_of rs) (map slot_of xs)) ≡ false
held [] [] e = absurd cc
held [] (x ∷ xs) e = after_there (slot_of x) (map slot_of xs)
held (r ∷ rs) xs e = first_there (slot_of r) (map slot_of rs) (map slot_of xs)

-- a record with a component or an addition
pub something_held : (v : Content) (rs xs : List Value) → v ≡ record_value (map slot_of rs) (map slot_of xs) → ((length rs == 0) && (length xs == 0)) ≡ false → is_of_kind Schemas.cut v ≡ false
something_held v rs xs e h = ap (is_of_kind Schemas.cut) e ∙ held rs xs h
