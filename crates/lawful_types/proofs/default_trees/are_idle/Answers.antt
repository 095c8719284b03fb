use Rattle.std.proofs.Common.{◌<◌, length, true, arith}
use Rattle.rasn_schema.specs.Normal.{is_idle}
use Rattle.rasn_dynamic.specs.Types.{presence_of, tree_slot}
use Rattle.lawful_types.proofs.Pairwise.{paired_begun, paired_ended, paired_failed, paired_passed, paired_uneven}
use Rattle.lawful_types.proofs.default_trees.are_idle.Goals as goal

pub returns-then-components-tolds : goal.returns-then-components-tolds
returns-then-components-tolds c = paired_uneven 0 (λ n k d. is_idle (presence_of true k.presence) (tree_slot d)) c.args.components.now c.args.tolds.now (λ e. omega (arith, e)) 0 (omega arith)

pub loop-index-init : goal.loop-index-init
loop-index-init c = paired_begun 0 (λ n k d. is_idle (presence_of true k.presence) (tree_slot d)) c.args.components.now c.args.tolds.now

pub returns-then-not-is_idle : goal.returns-then-not-is_idle
returns-then-not-is_idle c =
    let l : c.loop-index.index < length c.args.components.now = omega arith in
    paired_failed 0 (λ n k d. is_idle (presence_of true k.presence) (tree_slot d)) c.args.components.now c.args.tolds.now c.loop-index.index c.loop-index.invariant _ _ c.is_idle.result l c.index-components-index.is c.loop-index-test.true c.index-tolds-index.is (λ n le. c.is_idle.ensures) c.if-not-is_idle.true 0 (omega arith)

pub loop-index-preserved : goal.loop-index-preserved
loop-index-preserved c =
    let l : c.loop-index.index < length c.args.components.now = omega arith in
    paired_passed 0 (λ n k d. is_idle (presence_of true k.presence) (tree_slot d)) c.args.components.now c.args.tolds.now c.loop-index.index c.loop-index.invariant _ _ c.is_idle.result l c.index-components-index.is c.loop-index-test.true c.index-tolds-index.is (λ n le. c.is_idle.ensures) c.if-not-is_idle.false

pub returns : goal.returns
returns c = paired_ended 0 (λ n k d. is_idle (presence_of true k.presence) (tree_slot d)) c.args.components.now c.args.tolds.now c.loop-index.index c.loop-index.invariant (omega arith) c.loop-index-test.false 0 (omega arith)
