use Rattle.std.proofs.Common.{◌≡◌, ◌*◌, ◌/◌, arith, rules}
use Rattle.per_write.proofs.Elements.{begins_few, begins_many}
use Rattle.per_pieces.proofs.Fragments.{first_fragment}
use Rattle.per_write.proofs.lists.begin_largest_fragment.Goals as goal

pub returns-then-count-lt-FRAGMENT : goal.returns-then-count-lt-FRAGMENT
returns-then-count-lt-FRAGMENT g c =
    record {
      ok = begins_few c.args.writer.now c.put_unconstrained_length.new.self c.args.count c.args.around c.if-count-lt-FRAGMENT.true c.in_ok-put_unconstrained_length.ensures.ok;
      stated = search rules;
      err = search rules;
      fails = search rules;
      kept = search rules;
    }

pub returns : goal.returns
returns g c =
    let n : c.min.result / 16384 * 16384 ≡ first_fragment c.args.count = omega (arith, c.min.ensures) in
    record {
      ok = begins_many c.args.writer.now c.put_unconstrained_length-2.new.self c.args.count (c.min.result / 16384 * 16384) c.args.around c.if-count-lt-FRAGMENT.false n c.in_ok-put_unconstrained_length-2.ensures.ok;
      stated = search rules;
      err = search rules;
      fails = search rules;
      kept = search rules;
    }
