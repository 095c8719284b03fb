use Rattle.std.proofs.Common.{◌∙◌, sym, ap, refl, arith}
use Rattle.per_write.specs.Gathered.{flags_held}
use Rattle.per_write.proofs.WordFlags.{bit_more}
use Rattle.per_write.proofs.flags.GatheredFlags.push.Goals as goal

pub invariant_of-self : goal.invariant_of-self
invariant_of-self g c =
    let more = bit_more c.in-Word.count c.in-Word.word c.from.result _ c.args.flag c.args.self.now (rw c.in-Word.is at c.self.invariant).1 (omega arith) (sym c.self.view_is ∙ ap flags_held c.in-Word.is) c.from.ensures refl in
    (omega arith, more.0)

pub returns-in-Word-clause-ok : goal.returns-in-Word-clause-ok
returns-in-Word-clause-ok g c =
    (bit_more c.in-Word.count c.in-Word.word c.from.result _ c.args.flag c.args.self.now (rw c.in-Word.is at c.self.invariant).1 (omega arith) (sym c.self.view_is ∙ ap flags_held c.in-Word.is) c.from.ensures refl).1
