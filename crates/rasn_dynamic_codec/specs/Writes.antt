-- What the calls owe that write components and additions of a table of types.
use Rattle.std.specs.Prelude.{◌≡◌, ℕ, Bool, true, false, not, is_some, ◌&&◌, ◌||◌, List, [], ◌∷◌, Option, Some, None}
use Rattle.std.specs.Prelude.{Result, Ok, Err, OnErr}
use Rattle.rasn_types.specs.Values.{Side, Value}
use Rattle.rasn_schema.specs.Normal.{normal, settle, AtDepths}
use Rattle.rasn_schema.specs.Schemas
use Rattle.rasn_schema.specs.Schemas.{group, Schema}
use Rattle.rasn_traits.specs.Calls.{EncoderRules}
use Rattle.rasn_traits.specs.Counted.{OpensPlaced}
use Rattle.rasn_traits.specs.Additions.{AdditionWritten, WrittenAddition}
use Rattle.rasn_dynamic_codec.specs.OneAddition.{normal_addition}
use Rattle.rasn_schema.specs.declared.items.Place.{Place}
use Rattle.rasn_dynamic.specs.declared.types.Alternative.{Alternative}
use Rattle.rasn_dynamic.specs.declared.types.Choice.{Choice}
use Rattle.rasn_dynamic.specs.declared.types.Component.{Component}
use Rattle.rasn_dynamic.specs.declared.types.Presence.{Presence}
use Rattle.rasn_dynamic.specs.declared.types.Presence.TheVariants.{Required, Optional, Group, Default}
use Rattle.rasn_dynamic.specs.Types.{alternative_counts, standing}

-- whether a component may be absent, or there, as it is; and whether one with a default has to be there is told
abbrev pub may_stand : Bool → Presence → Option Value → Bool
may_stand b Required s = is_some s
may_stand b Optional s = true
may_stand b Group s = true
may_stand b (Default d) s = is_some s || not b

-- whether what stands for components is as many, and there where it has to be
abbrev pub fit : Bool → List Component → List (Option Value) → Bool
fit b [] [] = true
fit b [] (s ∷ ss) = false
fit b (c ∷ cs) [] = false
fit b (c ∷ cs) (s ∷ ss) = may_stand b c.presence s && fit b cs ss

-- A call that writes one component, or one addition, at each depth that holds it: an error leaves the encoder failed,
-- and the variant stays.
pub record WritesOne {E X : Type 0} (rules : EncoderRules E X)
    (Written : Schemas.Presence → Schema → Option Value → X → Result (Unit {0}) E → X → Type 0)
    (p : Schemas.Presence) (schema : ℕ → Schema) (k : ℕ) (slot : Option Value) (x : X) (result : Result (Unit {0}) E)
    (y : X) : Type 0 where
  pub law : AtDepths schema k (λ s. Written p s (normal_addition p s slot) x result y)
  pub fails : OnErr result (rules.failed y ≡ true)
  pub kept : rules.codec y ≡ rules.codec x

-- A call that gives an addition as its value in an open type, at each depth that holds it: an error leaves the encoder
-- failed, and the variant stays.
pub record GivesOpen {E X : Type 0} (rules : EncoderRules E X) (schema : ℕ → Schema) (k : ℕ) (v : Value) (x : X)
    (result : Result (Unit {0}) E) (y : X) : Type 0 where
  pub law : AtDepths schema k (λ s. AdditionWritten rules s (normal s v) x result y)
  pub fails : OnErr result (rules.failed y ≡ true)
  pub kept : rules.codec y ≡ rules.codec x

-- A call that gives an addition group in an open type, or as absent where it holds nothing (X.691 19.9), at each depth
-- that holds it: an error leaves the encoder failed, and the variant stays.
pub record GivesSettled {E X : Type 0} (rules : EncoderRules E X) (schema : ℕ → Schema) (k : ℕ) (v : Value) (x : X)
    (result : Result (Unit {0}) E) (y : X) : Type 0 where
  pub law : AtDepths schema k (λ s. WrittenAddition rules group s (settle group s (normal s v)) x result y)
  pub fails : OnErr result (rules.failed y ≡ true)
  pub kept : rules.codec y ≡ rules.codec x

-- A call that opens a choice of a table to write its alternative at a place: Ok answers the place of the type of that
-- too; where no alternative is at the place it is none, and nothing changes.
abbrev pub OpensChosen : {E X O : Type 0} → EncoderRules E X → (Schema → Side → ℕ → X → O → X → Type 0) → Choice
    → Place → X → Result (Option (ℕ × O)) E → X → Type 0
OpensChosen rules opens c p x (Ok None) y = (standing c p ≡ None) × (y ≡ x)
OpensChosen rules opens c p x (Ok (Some r)) y = (a : Alternative) × (standing c p ≡ Some a) × (r.0 ≡ a.of)
    × OpensPlaced rules opens (alternative_counts c) p x (Ok r.1) y
OpensChosen {O = O} rules opens c p x (Err e) y = (a : Alternative) × (standing c p ≡ Some a)
    × OpensPlaced {O = O} rules opens (alternative_counts c) p x (Err e) y
