use Rattle.std.specs.String.{string_bytes}
use Rattle.rasn_schema.specs.Normal.{normal}
use Rattle.rasn_codec.proofs.SameValues.{same_octets}
use Rattle.rasn_codec.proofs.default_texts.Utf8TextDefaultOfUtf8String.stands_for.Goals as goal

pub returns : goal.returns
unfolding normal
returns c = record { at = λ n le. rw (c.eq.ensures, c.as_str.ensures.value) (same_octets c.args.self.now.0.now (string_bytes c.args.component.now)) }
