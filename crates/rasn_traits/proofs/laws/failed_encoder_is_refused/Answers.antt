use Rattle.rasn_traits.proofs.Ended.{ended_in_error}
use Rattle.rasn_traits.proofs.laws.failed_encoder_is_refused.Goals as goal

pub returns : goal.returns
returns g c = λ scope result failed ended. ended_in_error g.E.Encoder.rules.already g.E.Encoder.rules.failed _ result failed ended
