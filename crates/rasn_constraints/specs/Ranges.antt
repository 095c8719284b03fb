-- The constraint to be within bounds, and the ranges of number types.
use Rattle.std.specs.Prelude.{ℕ, ◌-◌, ◌^◌, false, Some, None, pos, negsuc}
use Rattle.rasn_constraints.specs.Bounds.{Bounds, between}
use Rattle.rasn_constraints.specs.declared.constraints.Bounded.TheVariants.{Range}
use Rattle.rasn_constraints.specs.declared.constraints.Constraints.{Constraints}

-- X.680 49: no constraint
abbrev pub no_constraints : Constraints
no_constraints = record { value = None; size = None; alphabet = None }

-- X.680 51.4: a value constraint alone, without a mark: to be within bounds
abbrev pub within : Bounds → Constraints
within b = record {
  value = Some (record { constraint = Range b.low b.high; extensible = false });
  size = None;
  alphabet = None;
}

-- the numbers that a signed number type of w bits holds
abbrev pub signed_range : ℕ → Bounds
signed_range w = between (negsuc (2 ^ (w - 1) - 1)) (pos (2 ^ (w - 1) - 1))

-- the numbers that an unsigned number type of w bits holds
abbrev pub unsigned_range : ℕ → Bounds
unsigned_range w = between (pos 0) (pos (2 ^ w - 1))

-- the numbers that an i128 holds
abbrev pub i128_range : Bounds
i128_range = signed_range 128
