use Rattle.per_read.proofs.CharacterCodes.{none_known}
use Rattle.per_read.proofs.alphabet.ReadAlphabet.from_alphabet.Goals as goal

pub invariant_of-result : goal.invariant_of-result
invariant_of-result c = none_known c.args.alphabet 128
