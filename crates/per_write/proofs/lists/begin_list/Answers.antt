use Rattle.rasn_constraints.specs.Constraints.{is_marked, size_in}
use Rattle.per_write.proofs.Elements.{list_entered}
use Rattle.per_write.proofs.lists.begin_list.Goals as goal

pub returns : goal.returns
returns g c =
    list_entered (size_in c.args.size) (is_marked c.args.size) c.args.count c.set_open-around.result c.args.writer.now c.begin_counted.new.writer c.begin_counted.result c.set_open-around.ensures.before
    (rw c.set_open-around.ensures.from_now_on at c.begin_counted.ensures)
