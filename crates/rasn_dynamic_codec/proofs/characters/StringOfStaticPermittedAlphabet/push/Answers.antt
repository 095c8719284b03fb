use Rattle.rasn_strings.proofs.Own.{own_push}
use Rattle.rasn_dynamic_codec.proofs.characters.StringOfStaticPermittedAlphabet.push.Goals as goal

pub push-requires : goal.push-requires
push-requires g c = c.are_wide.ensures c.args.character c.requires

pub invariant_of-self-2 : goal.invariant_of-self-2
invariant_of-self-2 g c = rw c.in_ok-push.ensures.ok (own_push g.K.CharacterKind.alphabet c.self.inside.string c.args.character c.self.invariant c.requires)
