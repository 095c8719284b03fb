use Rattle.std.proofs.Common.{refl, sym, ap₂, ◌∙◌, ◌||◌}
use Rattle.std.specs.Prelude.{string_bytes}
use Rattle.per_messages.specs.Remarks.{of_again, tells}
use Rattle.per_messages.proofs.Walked.{adds_all, adds_each, adds_none, any_all, any_more}
use Rattle.per_messages.proofs.departures.push_repeated.Goals as goal

pub loop-index-init : goal.loop-index-init
loop-index-init c = record { any = refl; added = adds_none _ }

pub loop-index-preserved : goal.loop-index-preserved
loop-index-preserved c =
    let is_one = tells c.args.kinds.now c.args.root.now c.args.chooser c.args.row.now in
    record {
      any = c.either-is_there.ensures ∙ ap₂ (λ a b. a || b) c.loop-index.invariant.any c.tells-is_one.ensures
          ∙ sym (any_more is_one c.loop-index.index c.args.values.now c.index-values-index.result c.loop-index-test.true c.index-values-index.is);
      added = adds_each (of_again is_one (string_bytes c.args.row.now.name) c.args.path.now c.args.values.now) c.loop-index.index c.args.values.now
          c.index-values-index.result c.args.remarks.now.items c.loop-index.remarks.items c.push_again.new.remarks.items
          c.loop-index-test.true c.index-values-index.is c.loop-index.invariant.added
          (rw (c.loop-index.invariant.any, c.tells-is_one.ensures, c.as_str.ensures.value) at c.in_ok-push_again.ensures);
    }

pub returns : goal.returns
returns c =
    let is_one = tells c.args.kinds.now c.args.root.now c.args.chooser c.args.row.now in
    record {
      any = c.loop-index.invariant.any ∙ any_all is_one c.loop-index.index c.args.values.now c.loop-index-test.false;
      added = adds_all (of_again is_one (string_bytes c.args.row.now.name) c.args.path.now c.args.values.now) c.loop-index.index c.args.values.now
          c.args.remarks.now.items c.loop-index.remarks.items c.loop-index-test.false c.loop-index.invariant.added;
    }
