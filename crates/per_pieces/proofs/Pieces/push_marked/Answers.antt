use Rattle.std.proofs.Common.{refl, arith, get_or, ◌+◌}
use Rattle.std.proofs.lemmas.Result.{on_ok_weaker}
use Rattle.std.specs.Prelude.{◌-◌, length}
use Rattle.per_pieces.proofs.Marking.{is_taken, walks_last, walks_next, walks_on}
use Rattle.per_pieces.proofs.Pieces.push_marked.Goals as goal

pub unwrap-front-requires : goal.unwrap-front-requires
unwrap-front-requires g c =
    let m = get_or c.args.marks.now c.loop-index.index 0 in
    let w = walks_on c.args.self.now c.loop-index.self c.args.marks.now c.args.bits.now c.loop-index.done c.loop-index.index c.loop-index.rest.bits m c.loop-index.invariant c.loop-index-test.true refl in
    is_taken c.take.result (length c.loop-index.rest.bits) (m - c.loop-index.done) c.take.ensures.short w.1

pub loop-index-preserved : goal.loop-index-preserved
loop-index-preserved g c =
    let m = get_or c.args.marks.now c.loop-index.index 0 in
    walks_next c.args.self.now c.loop-index.self c.push_reader.new.self c.push_padding.new.self c.args.marks.now c.args.bits.now c.loop-index.done c.loop-index.index (c.loop-index.index + 1) c.loop-index.rest.bits
    c.unwrap-front.result.bits c.take.new.self.bits m c.loop-index.invariant c.loop-index-test.true (omega arith) refl
    (rw c.unwrap-front.ensures at c.take.ensures.ok) (rw c.unwrap-front.ensures at c.take.ensures.count) c.in_ok-push_reader.ensures.ok c.in_ok-push_padding.ensures

pub returns : goal.returns
returns g c =
    on_ok_weaker _ (walks_last c.args.self.now c.loop-index.self c.push_reader-2.new.self c.args.marks.now c.args.bits.now c.loop-index.done c.loop-index.index c.loop-index.rest.bits c.loop-index.invariant c.loop-index-test.false)
    c.push_reader-2.ensures.ok
