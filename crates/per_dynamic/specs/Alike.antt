-- When a type of Rust and a type of a table are the same type.
use Rattle.std.specs.Prelude.{◌≡◌, ℕ}
use Rattle.rasn_schema.specs.Schemas.{Schema}

-- two types have one schema, to each number of levels
abbrev pub AreAlike : (ℕ → Schema) → (ℕ → Schema) → Type 0
AreAlike type other = (n : ℕ) → type n ≡ other n
