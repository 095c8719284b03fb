-- How much comes in an open scope: components, presence bits and additions.
use Rattle.std.specs.Prelude.{ℕ, suc, Bool, true, false}
use Rattle.rasn_schema.specs.Structures.{presence_bits}
use Rattle.rasn_schema.specs.Schemas.{count, Parts}

-- How much came in a scope: components, of which each comes as a value or as a presence bit 0; presence bits; and
-- additions.
pub record Amount : Type 0 where
  pub components : ℕ
  pub bits : ℕ
  pub additions : ℕ

-- nothing came
abbrev pub no_amount : Amount
no_amount = record { components = 0; bits = 0; additions = 0 }

-- what a scope takes that holds one value
abbrev pub one_value : Amount
one_value = record { components = 1; bits = 0; additions = 0 }

-- so many values, and nothing else
abbrev pub only_values : ℕ → Amount
only_values n = record { components = n; bits = 0; additions = 0 }

-- what the scope of a record takes: each of its components, a presence bit of each that may be absent (X.691 19.2), and
-- each of its additions (X.691 19.7)
abbrev pub amount_of : Parts → Parts → Amount
amount_of ps qs = record { components = count ps; bits = presence_bits ps; additions = count qs }

-- a component more
abbrev pub with_component : Amount → Amount
with_component a = record { components = suc a.components; bits = a.bits; additions = a.additions }

-- a presence bit more: a bit 0 is a component that is left out, and after a bit 1 its value follows
abbrev pub with_bit : Bool → Amount → Amount
with_bit true a = record { components = a.components; bits = suc a.bits; additions = a.additions }
with_bit false a = record { components = suc a.components; bits = suc a.bits; additions = a.additions }

-- an addition more
abbrev pub with_addition : Amount → Amount
with_addition a = record { components = a.components; bits = a.bits; additions = suc a.additions }
