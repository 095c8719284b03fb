-- How many levels a value of the grammar takes.
use Rattle.std.specs.Prelude.{ℕ, suc, max}
use Rattle.rasn_types.specs.Values.{Value, elements, bag, fields, alternative, day, Values, no_values, value, Slots}
use Rattle.rasn_types.specs.Values.{no_slots, absent, there}

-- a list, a bag, a record and an alternative are one level above what is in them; a date is a record that holds a
-- choice (X.691 32)
unfoldable mutual
  pub depth : Value → ℕ
  depth (elements vs) = suc (values_depth vs)
  depth (bag vs) = suc (values_depth vs)
  depth (fields r x) = suc (max (slots_depth r) (slots_depth x))
  depth (alternative d i v) = suc (depth v)
  depth (day y m d) = 2
  depth _ = 0

  pub values_depth : Values → ℕ
  values_depth no_values = 0
  values_depth (value v vs) = max (depth v) (values_depth vs)

  pub slots_depth : Slots → ℕ
  slots_depth no_slots = 0
  slots_depth (absent ss) = slots_depth ss
  slots_depth (there v ss) = max (depth v) (slots_depth ss)
