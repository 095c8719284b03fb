-- What constraints say: the bounds that a `Bounded` has, and the first constraint of each kind (ITU-T X.680, 49 to 52).
use lib.Signed.{le_z}
use Rattle.std.specs.Prelude.{ℕ, ◌+◌, ◌^◌, ℤ, Bool, false, if◌then◌else◌, nat_lt, ◌&&◌, List, [], ◌∷◌}
use Rattle.std.specs.Prelude.{Option, Some, None, option_map}
use Rattle.std.specs.Option.{option_or}
use Rattle.std.specs.Borrow.{Bor}
use Rattle.rasn_types.specs.Alphabets.{restricted}
use Rattle.rasn_constraints.specs.Bounds.{above, Bounds, Size, unbounded, any_size}
use Rattle.rasn_constraints.specs.declared.constraints.Bounded.{Bounded}
use Rattle.rasn_constraints.specs.declared.constraints.Bounded.TheVariants as Variants
use Rattle.rasn_constraints.specs.declared.constraints.Constraint.{Constraint}
use Rattle.rasn_constraints.specs.declared.constraints.Constraint.TheVariants.{Value, Size as OfSize, PermittedAlphabet}
use Rattle.rasn_constraints.specs.declared.constraints.Extensible.{Extensible}

-- X.680 51.2, 51.4: the lower end, where there is one; a single value is its own
abbrev pub start_of : {T : Type 0} → Bounded T → Option T
start_of Variants.None = None
start_of (Variants.Single v) = Some v
start_of (Variants.Range start end) = start

-- the upper end, where there is one; a single value is its own
abbrev pub end_of : {T : Type 0} → Bounded T → Option T
end_of Variants.None = None
end_of (Variants.Single v) = Some v
end_of (Variants.Range start end) = end

-- the bounds, where a value is the whole number that f gives
abbrev pub bounds_by : {T : Type 0} → (T → ℤ) → Bounded T → Bounds
bounds_by f b = record { low = option_map f (start_of b); high = option_map f (end_of b) }

-- X.691 11.5.3: how many whole numbers there are from a lower to an upper bound
abbrev pub how_many_from : Option ℤ → Option ℤ → Option ℕ
how_many_from None high = None
how_many_from (Some l) None = None
how_many_from (Some l) (Some u) = if le_z l u && nat_lt (above l u + 1) (2 ^ 128) then Some (above l u + 1) else None

-- how many whole numbers are within bounds, where both are there and in order, and a u128 holds the number
abbrev pub how_many : Bounds → Option ℕ
how_many b = how_many_from b.low b.high

-- the constraints of a type that are in use: the first of each kind (this project's rule). The others change nothing.
pub record Effective : Type 0 where
  pub value : Option (Extensible (Bounded ℤ))
  pub size : Option (Extensible (Bounded ℕ))
  pub alphabet : Option (Extensible (List ℕ))

-- the bounds of a number that a constraint states
abbrev pub stated_value : Constraint → Option (Extensible (Bounded ℤ))
stated_value (Value v) = Some v
stated_value _ = None

-- the bounds of a count that a constraint states
abbrev pub stated_size : Constraint → Option (Extensible (Bounded ℕ))
stated_size (OfSize s) = Some s
stated_size _ = None

-- an alphabet as the characters that it lists
abbrev pub listed_alphabet : Extensible (Bor (List ℕ)) → Extensible (List ℕ)
listed_alphabet a = record { constraint = a.constraint.now; extensible = a.extensible }

-- the permitted alphabet that a constraint states
abbrev pub stated_alphabet : Constraint → Option (Extensible (List ℕ))
stated_alphabet (PermittedAlphabet a) = Some (listed_alphabet a)
stated_alphabet _ = None

-- the first that f gives of a list
abbrev pub first_of : {A : Type 0} → (Constraint → Option A) → List Constraint → Option A
first_of f [] = None
first_of f (c ∷ cs) = option_or (f c) (first_of f cs)

-- the constraints in use of a list
abbrev pub effective : List Constraint → Effective
effective cs = record {
  value = first_of stated_value cs;
  size = first_of stated_size cs;
  alphabet =
      first_of stated_alphabet cs;
}

-- whether a constraint in use has an extension marker; where there is none, it has not
abbrev pub is_marked : {A : Type 0} → Option (Extensible A) → Bool
is_marked None = false
is_marked (Some e) = e.extensible

-- the bounds of whole numbers
abbrev pub bounds_of : Bounded ℤ → Bounds
bounds_of b = bounds_by (λ z. z) b

-- the bounds of counts
abbrev pub size_between : Bounded ℕ → Size
size_between b = record { least = start_of b; most = end_of b }

-- the bounds that a value constraint in use states; where there is none, none
abbrev pub bounds_in : Option (Extensible (Bounded ℤ)) → Bounds
bounds_in None = unbounded
bounds_in (Some e) = bounds_of e.constraint

-- the size that a size constraint in use states; where there is none, any
abbrev pub size_in : Option (Extensible (Bounded ℕ)) → Size
size_in None = any_size
size_in (Some e) = size_between e.constraint

-- the characters of a type that a permitted alphabet in use leaves
abbrev pub permitted : List ℕ → Option (Extensible (List ℕ)) → List ℕ
permitted own None = own
permitted own (Some e) = if e.extensible then own else restricted own e.constraint
