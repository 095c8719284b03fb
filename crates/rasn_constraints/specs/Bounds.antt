-- Bounds of numbers and of counts: which numbers are within bounds, and which counts a size allows (ITU-T X.680, 51);
-- and the number and the bounds that an error tells.
use lib.Signed.{le_z}
use Rattle.std.specs.Prelude.{ℕ, suc, ◌+◌, ◌-◌, ◌^◌, Bool, true, ◌&&◌, nat_le, nat_lt, Option, Some, None, ℤ, pos}
use Rattle.std.specs.Prelude.{negsuc, ◌*◌, ◌/◌, ◌%◌, if◌then◌else◌}
use Rattle.rasn_constraints.specs.declared.count.Count.{Count}
use Rattle.rasn_constraints.specs.declared.bounds.OutOfBounds.{OutOfBounds}
use Rattle.rasn_constraints.specs.declared.bounds.Sign.{Sign}
use Rattle.rasn_constraints.specs.declared.bounds.Sign.TheVariants.{Absent, Positive, Negative}

-- X.680 51.4: the least and the greatest number of a value constraint, each where there is one
pub record Bounds : Type 0 where
  pub low : Option ℤ
  pub high : Option ℤ

-- X.680 51.5: the least and the greatest count of a size constraint, each where there is one
pub record Size : Type 0 where
  pub least : Option ℕ
  pub most : Option ℕ

-- no value constraint
abbrev pub unbounded : Bounds
unbounded = record { low = None; high = None }

-- no size constraint
abbrev pub any_size : Size
any_size = record { least = None; most = None }

-- the bounds with a least and a greatest number
abbrev pub between : ℤ → ℤ → Bounds
between a b = record { low = Some a; high = Some b }

-- whether a count is at least the lower bound, where there is one
abbrev pub at_least : Option ℕ → ℕ → Bool
at_least None n = true
at_least (Some l) n = nat_le l n

-- whether a count is at most the upper bound, where there is one
abbrev pub at_most : Option ℕ → ℕ → Bool
at_most None n = true
at_most (Some u) n = nat_le n u

-- X.680 51.5: whether a size allows a count; no string or list has more members than `usize::MAX` (this project's
-- choice)
abbrev pub allows : Size → ℕ → Bool
allows size n = at_least size.least n && (at_most size.most n && nat_lt n (2 ^ 64))

-- whether a number is at least the lower bound, where there is one
abbrev pub not_below : Option ℤ → ℤ → Bool
not_below None v = true
not_below (Some l) v = le_z l v

-- whether a number is at most the upper bound, where there is one
abbrev pub not_above : Option ℤ → ℤ → Bool
not_above None v = true
not_above (Some u) v = le_z v u

-- X.680 51.4: whether a number is within bounds
abbrev pub holds : Bounds → ℤ → Bool
holds b v = not_below b.low v && not_above b.high v

-- whether a number is one of the type i128
abbrev pub fits_i128 : ℤ → Bool
fits_i128 v = holds (record { low = Some (negsuc (2 ^ 127 - 1)); high = Some (pos (2 ^ 127 - 1)) }) v

-- X.691 11.5.3, 11.7.3: how far v is above l, where it isn't below
abbrev pub above : ℤ → ℤ → ℕ
above (pos l) (pos v) = v - l
above (pos l) (negsuc v) = 0
above (negsuc l) (pos v) = v + suc l
above (negsuc l) (negsuc v) = l - v

-- the words of a number
abbrev pub count_of : ℕ → Count
count_of n = record { low = n % 2 ^ 64; high = n / 2 ^ 64 }

-- the number of two words
abbrev pub number_of : Count → ℕ
number_of c = c.high * 2 ^ 64 + c.low

-- the number that a count stands for, which an i128 holds
abbrev pub told_by : Sign → Count → Option ℤ
told_by Absent c = None
told_by Positive c = if nat_lt (number_of c) (2 ^ 127) then Some (pos (number_of c)) else None
told_by Negative c = if nat_lt (number_of c) (2 ^ 127) then Some (negsuc (number_of c)) else None

-- the number that is refused
abbrev pub value_of : OutOfBounds → Option ℤ
value_of told = told_by told.value_sign told.value

-- its lower bound
abbrev pub lower_of : OutOfBounds → Option ℤ
lower_of told = told_by told.lower_sign told.lower

-- its upper bound
abbrev pub upper_of : OutOfBounds → Option ℤ
upper_of told = told_by told.upper_sign told.upper
