use Rattle.rasn_codec.proofs.TestedCharacters.{kept_own}
use Rattle.rasn_codec.proofs.default_texts.string_of.Goals as goal

pub push_octets-requires : goal.push_octets-requires
push_octets-requires g c = rw c.own.ensures (kept_own g.S.StaticPermittedAlphabet.alphabet c.args.characters.now)
