use Rattle.std.proofs.Common.{ltb}
use Rattle.rasn_schema.specs.Normal.{normal}
use Rattle.rasn_codec.specs.AtDefault.{kept}
use Rattle.rasn_codec.proofs.TestedCharacters.{kept_ia5}
use Rattle.rasn_codec.proofs.SameValues.{same_characters}
use Rattle.rasn_codec.proofs.default_texts.TextDefaultOfIa5String.stands_for.Goals as goal

pub returns : goal.returns
unfolding normal
returns g c = record { at = λ n le. rw (c.eq.ensures, c.as_iso646_bytes.ensures.characters, c.own.ensures, kept_ia5) (same_characters (kept (λ c. ltb c 128) c.args.self.now.0) c.args.component.now) }
