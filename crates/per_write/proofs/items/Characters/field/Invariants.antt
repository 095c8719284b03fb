use Rattle.per_write.proofs.CharacterFields.{Field}
use Rattle.per_write.proofs.items.Characters.field.Given as goal

abbrev pub invariant-loop-index : goal.invariant-loop-index
invariant-loop-index g l = Field l.self.alphabet (g.S.StaticPermittedAlphabet.characters l.self.string.now) l.start l.index l.number
