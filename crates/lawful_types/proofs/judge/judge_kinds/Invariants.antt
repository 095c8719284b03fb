use Rattle.std.proofs.Common.{◌≡◌, true, take}
use Rattle.rasn_schema.specs.Lawful.{all_pass}
use Rattle.lawful_types.specs.TypeRules.{is_lawful_kind}
use Rattle.lawful_types.proofs.judge.judge_kinds.Given as goal

abbrev pub invariant-loop-place : goal.invariant-loop-place
invariant-loop-place l = all_pass (is_lawful_kind l.fn.kinds) (take l.place l.fn.kinds) ≡ true
