-- Which constraints a lawful type may have.
use Rattle.std.specs.Prelude.{ℕ, ◌+◌, ◌^◌, Bool, true, ◌&&◌, nat_le, nat_lt, Option, Some, None, ℤ}
use lib.Signed.{le_z}
use Rattle.rasn_constraints.specs.Bounds.{above}
use Rattle.rasn_constraints.specs.Constraints.{bounds_in, size_in}
use Rattle.rasn_constraints.specs.declared.constraints.Constraints.{Constraints}

-- X.680 51.4: whether bounds are in order, and hold at most `i128::MAX` numbers where both are there (this project's
-- limit)
abbrev pub are_lawful_bounds : Option ℤ → Option ℤ → Bool
are_lawful_bounds None high = true
are_lawful_bounds (Some l) None = true
are_lawful_bounds (Some l) (Some u) = le_z l u && nat_lt (above l u + 1) (2 ^ 127)

-- X.680 51.5: whether the bounds of a size are in order
abbrev pub is_lawful_size : Option ℕ → Option ℕ → Bool
is_lawful_size None most = true
is_lawful_size (Some l) None = true
is_lawful_size (Some l) (Some u) = nat_le l u

-- whether the bounds and the size in use are lawful
abbrev pub are_lawful : Constraints → Bool
are_lawful c =
    let bounds = bounds_in c.value in
    let size = size_in c.size in
    are_lawful_bounds bounds.low bounds.high && is_lawful_size size.least size.most
