use Rattle.std.proofs.Common.{◌∙◌, sym, ap, length}
use Rattle.rasn_types.proofs.Bits.{length-to_bits}
use Rattle.per_write.specs.Gathered.{flags_held}
use Rattle.per_write.proofs.flags.GatheredFlags.len.Goals as goal

pub returns-in-Word : goal.returns-in-Word
returns-in-Word g c =
    c.from.ensures ∙ sym (ap length (sym c.self.view_is ∙ ap flags_held c.in-Word.is) ∙ length-to_bits c.in-Word.count c.in-Word.field-0)
