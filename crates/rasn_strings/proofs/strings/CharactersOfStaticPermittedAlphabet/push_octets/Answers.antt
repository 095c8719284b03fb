use Rattle.std.proofs.Common.{map}
use Rattle.rasn_strings.proofs.Own.{own_append}
use Rattle.rasn_strings.proofs.strings.CharactersOfStaticPermittedAlphabet.push_octets.Goals as goal

pub invariant_of-self-2 : goal.invariant_of-self-2
invariant_of-self-2 g c = rw c.in_ok-append.ensures.ok (own_append g.K.CharacterKind.alphabet (map g.K.Unit.CharacterUnit.value c.self.inside.characters.items) c.args.octets.now c.self.invariant c.requires)
