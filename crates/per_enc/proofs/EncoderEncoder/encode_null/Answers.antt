use Rattle.per_enc.proofs.Noting.{null_noted}
use Rattle.per_enc.proofs.EncoderEncoder.encode_null.Goals as goal

pub returns : goal.returns
returns g c = null_noted c.args.self.now c.begin_value.new.self c.begin_value.result c.begin_value.ensures.ok c.begin_value.ensures.noted c.begin_value.ensures.err c.begin_value.ensures.failed c.begin_value.ensures.stays
