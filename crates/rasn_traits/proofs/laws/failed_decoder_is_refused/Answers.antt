use Rattle.rasn_traits.proofs.Ended.{ended_in_error}
use Rattle.rasn_traits.proofs.laws.failed_decoder_is_refused.Goals as goal

pub returns : goal.returns
returns g c = λ scope result failed ended. ended_in_error g.D.Decoder.rules.already g.D.Decoder.rules.failed _ result failed ended
