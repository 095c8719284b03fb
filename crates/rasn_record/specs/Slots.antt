-- One component of a record, as a cell writes it.
use Rattle.std.specs.Prelude.{◌≡◌, ◌≤◌, ℕ, Result, Option, Some, None, refl}
use Rattle.std.proofs.Common.{arith}
use Rattle.rasn_types.specs.Values.{Value}
use Rattle.rasn_schema.specs.Schemas.{Presence, group, Schema}
use Rattle.rasn_schema.specs.Normal.{normal, AtDepths}
use Rattle.rasn_traits.specs.Calls.{Behaves, EncoderRules}
use Rattle.rasn_traits.specs.Scopes.{WrittenPart}
use Rattle.rasn_record.specs.Lists.{Asked}

-- how many levels a value takes that may be there
abbrev pub slot_levels : {T : Type 0} → (T → ℕ) → Option T → ℕ
slot_levels levels None = 0
slot_levels levels (Some x) = levels x

-- of a value that may be there: that the number is at least its levels, where it is there
abbrev pub slot_asked : {T : Type 0} → (T → ℕ) → Option T → Asked
slot_asked {T} levels o = record { Of = λ n. (x : T) → o ≡ Some x → levels x ≤ n }

pub slot_within : {T : Type 0} (levels : T → ℕ) (o : Option T) (n : ℕ) → (slot_asked levels o).Of n
    → slot_levels levels o ≤ n
slot_within levels None n h = omega arith
slot_within levels (Some x) n h = h x refl

-- a presence other than an addition group's
abbrev pub IsComponent : Presence → Type 0
IsComponent group = ⊥
IsComponent _ = Unit {0}

-- the normal form of a component that isn't an addition group
abbrev pub normal_slot : Schema → Option Value → Option Value
normal_slot s None = None
normal_slot s (Some v) = Some (normal s v)

-- A call that writes a component, absent or there, at each depth that holds it.
pub record WritesComponent {E X : Type 0} (rules : EncoderRules E X) (p : Presence) (schema : ℕ → Schema) (k : ℕ)
    (r : Option Value) (x : X) (result : Result (Unit {0}) E) (y : X) : Type 0 where
  pub law : AtDepths schema k (λ s. WrittenPart rules p s (normal_slot s r) x result y)
  pub behaves : Behaves rules.already rules.failed rules.codec x result y
