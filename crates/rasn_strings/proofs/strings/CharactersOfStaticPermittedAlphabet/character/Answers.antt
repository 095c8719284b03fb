use Rattle.std.proofs.Common.{map}
use Rattle.rasn_strings.proofs.Own.{own_get}
use Rattle.rasn_strings.proofs.strings.CharactersOfStaticPermittedAlphabet.character.Goals as goal

pub returns-clause-own : goal.returns-clause-own
returns-clause-own g c = rw (c.character_at.ensures, c.deref.ensures.value) (own_get g.K.CharacterKind.alphabet (map g.K.Unit.CharacterUnit.value c.self.inside.characters.items) c.args.index c.self.invariant)
