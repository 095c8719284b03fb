-- One addition of a record, as a cell gives and reads it (ITU-T X.691, 19.7 to 19.9).
use Rattle.std.specs.Prelude.{ℕ, Result, Option, Some, None}
use Rattle.rasn_types.specs.Values.{Value}
use Rattle.rasn_schema.specs.Schemas.{TagTree, Presence, Schema}
use Rattle.rasn_schema.specs.Normal.{normal, settle, AtDepths}
use Rattle.rasn_traits.specs.Additions.{WrittenAddition}
use Rattle.rasn_traits.specs.AdditionsRead.{FaultyAddition, ReadsAddition}
use Rattle.rasn_traits.specs.Calls.{Answers, Behaves, DecoderRules, EncoderRules}

-- the normal form of an addition: a group that holds nothing is absent
abbrev pub normal_addition : Presence → Schema → Option Value → Option Value
normal_addition p s None = None
normal_addition p s (Some v) = settle p s (normal s v)

-- A call that gives an addition, absent or there, at each depth that holds it.
pub record WritesAddition {E X : Type 0} (rules : EncoderRules E X) (p : Presence) (schema : ℕ → Schema) (k : ℕ)
    (r : Option Value) (x : X) (result : Result (Unit {0}) E) (y : X) : Type 0 where
  pub law : AtDepths schema k (λ s. WrittenAddition rules p s (normal_addition p s r) x result y)
  pub behaves : Behaves rules.already rules.failed rules.codec x result y

-- A call that reads an addition of a presence, under a tag.
pub record ReadsOneAddition {E S T : Type 0} (rules : DecoderRules E S) (k : TagTree) (p : Presence) (c : Schema)
    (slot : T → Option Value) (s : S) (result : Result T E) (t : S) : Type 0 where
  pub law : Answers rules.memory (λ e. FaultyAddition rules e k p c) (ReadsAddition rules p c) slot s result t
  pub behaves : Behaves rules.already rules.failed rules.codec s result t
