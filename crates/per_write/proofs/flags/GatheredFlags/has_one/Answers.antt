use Rattle.std.proofs.Common.{◌∙◌, sym, ap}
use Rattle.per_write.specs.Gathered.{flags_held}
use Rattle.per_write.proofs.WordFlags.{has_one_in_word}
use Rattle.per_write.proofs.flags.GatheredFlags.has_one.Goals as goal

pub returns-in-Word : goal.returns-in-Word
returns-in-Word g c =
    has_one_in_word c.in-Word.field-1 c.in-Word.word c.args.self.now (rw c.in-Word.is at c.self.invariant).1 (sym c.self.view_is ∙ ap flags_held c.in-Word.is)
