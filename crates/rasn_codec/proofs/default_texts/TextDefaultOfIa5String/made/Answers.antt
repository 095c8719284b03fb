use Rattle.std.proofs.Common.{rules}
use Rattle.rasn_codec.proofs.TestedCharacters.{kept_ia5}
use Rattle.rasn_codec.proofs.default_texts.TextDefaultOfIa5String.made.Goals as goal

pub returns : goal.returns
returns g c = let h = rw (kept_ia5 c.args.self.now.0) at c.string_of.ensures in search rules
