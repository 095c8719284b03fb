use Rattle.rasn_schema.specs.Normal.{normal}
use Rattle.rasn_codec.proofs.SameValues.{same_octets}
use Rattle.rasn_codec.proofs.default_octets.OctetsDefaultOfOctetString.stands_for.Goals as goal

pub returns : goal.returns
unfolding normal
returns g c = record { at = λ n le. rw (c.eq.ensures, c.as_bytes.ensures) (same_octets c.args.self.now.0 c.args.component.now) }
