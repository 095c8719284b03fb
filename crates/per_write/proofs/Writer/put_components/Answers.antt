use Rattle.std.proofs.Common.{refl}
use Rattle.per_write.proofs.SetRoots.{puts_components}
use Rattle.per_write.proofs.Writer.put_components.Goals as goal

pub returns : goal.returns
returns g c =
    rw (← c.self.view_is) (puts_components c.args.fields.now c.args.set _ _ c.unless_out_of_memory.new.self _ c.close.new.pieces c.push_set_root-pushed.result c.unless_out_of_memory.result c.in-Some.ensures.components c.close.ensures.outer refl c.push_set_root-pushed.ensures
    c.unless_out_of_memory.ensures.ok c.unless_out_of_memory.ensures.kept c.unless_out_of_memory.ensures.err c.unless_out_of_memory.ensures.fails)
