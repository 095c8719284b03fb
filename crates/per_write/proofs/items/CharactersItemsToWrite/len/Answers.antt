use Rattle.std.proofs.Common.{◌∙◌, sym}
use Rattle.per_write.proofs.Steps.{length-char_writers}
use Rattle.per_write.proofs.items.CharactersItemsToWrite.len.Goals as goal

pub returns : goal.returns
returns g c = λ a. c.len.ensures ∙ sym (length-char_writers c.args.self.now.alphabet.variant c.args.self.now.alphabet.characters (g.S.StaticPermittedAlphabet.characters c.args.self.now.string.now))
