use Rattle.std.proofs.lemmas.Result.{on_ok_weaker}
use Rattle.per_pieces.proofs.Marking.{order_mark, padded_mark, padded_start}
use Rattle.per_pieces.proofs.Pieces.push_padding.Goals as goal

pub invariant_of-self : goal.invariant_of-self
invariant_of-self g c = order_mark c.self.inside.marks c.in-Some.marks c.push.new.self c.self.inside.bits c.len.result c.push.result c.in-Some.is c.self.invariant c.len.ensures c.push.ensures.ok c.push.ensures.err

pub returns-in-Some : goal.returns-in-Some
returns-in-Some g c =
    on_ok_weaker _ (padded_mark c.args.self.now c.self.inside.marks c.in-Some.marks c.push.new.self c.self.inside.bits c.len.result c.self.view_is c.in-Some.is c.self.invariant c.len.ensures) c.push.ensures.ok

pub returns-in-None : goal.returns-in-None
returns-in-None g c =
    on_ok_weaker _ (padded_start c.args.self.now c.self.inside.marks c.self.inside.bits c.push_bits.new.self c.len-in-None.result c.self.view_is c.in-None.is c.len-in-None.ensures) c.push_bits.ensures.ok
