use Rattle.rasn_strings.proofs.Own.{own_get}
use Rattle.rasn_dynamic_codec.proofs.characters.StringOfStaticPermittedAlphabet.character.Goals as goal

pub returns-clause-own : goal.returns-clause-own
returns-clause-own g c = rw c.character.ensures.value (own_get g.K.CharacterKind.alphabet c.self.inside.string c.args.index c.self.invariant)
