use Rattle.rasn_types.specs.Alphabets.{bmp}
use Rattle.rasn_strings.proofs.Own.{own_append}
use Rattle.rasn_dynamic_codec.proofs.Alphabets.{wider}
use Rattle.rasn_dynamic_codec.proofs.characters.StringOfStaticPermittedAlphabet.push_octets.Goals as goal

pub push_octets-requires : goal.push_octets-requires
push_octets-requires g c = wider g.K.CharacterKind.alphabet bmp c.args.octets.now c.are_wide.ensures c.requires

pub invariant_of-self-2 : goal.invariant_of-self-2
invariant_of-self-2 g c = rw c.in_ok-push_octets.ensures.ok (own_append g.K.CharacterKind.alphabet c.self.inside.string c.args.octets.now c.self.invariant c.requires)
