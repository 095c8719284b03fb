use Rattle.std.proofs.Common.{◌≡◌, Some}
use Rattle.std.specs.Prelude.{slice_get}
use Rattle.lawful_types.specs.TypeRules.{is_lawful_kind}
use Rattle.lawful_types.proofs.Lawful.{unlawful}
use Rattle.lawful_types.proofs.Passing.{passes_more, stands_at}
use Rattle.lawful_types.proofs.judge.judge_kinds.Goals as goal

pub loop-place-preserved : goal.loop-place-preserved
loop-place-preserved c =
    let ts = c.args.kinds.now in let k = c.index-kinds-place.result in
    passes_more (is_lawful_kind ts) ts c.loop-place.place k c.loop-place-test.true c.index-kinds-place.is c.in_default.ensures c.loop-place.invariant

pub returns-in-Err : goal.returns-in-Err
returns-in-Err c =
    let ts = c.args.kinds.now in let i = c.loop-place.place in let k = c.index-kinds-place.result in
    let stands : slice_get ts i ≡ Some k = stands_at ts i k c.loop-place-test.true c.index-kinds-place.is in
    record { kind = k; stands = stands; breaks = c.in-Err.ensures; unlawful = unlawful ts i c.in-Err.reason k stands c.in-Err.ensures }
