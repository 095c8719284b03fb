use Rattle.std.proofs.Common.{sym}
use Rattle.per_write.proofs.Steps.{length-char_writers}
use Rattle.per_enc.proofs.times.TextItemsToWrite.len.Goals as goal

pub returns : goal.returns
returns c = λ a. sym (length-char_writers c.args.self.now.alphabet.variant c.args.self.now.alphabet.characters c.args.self.now.characters.now)
