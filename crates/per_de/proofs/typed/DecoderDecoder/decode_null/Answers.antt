use Rattle.per_de.proofs.InTurn.{null_read}
use Rattle.per_de.proofs.typed.DecoderDecoder.decode_null.Goals as goal

pub returns : goal.returns
returns c =
    null_read c.args.self.now c.begin_value.new.self c.begin_value.result c.begin_value.ensures.ok c.begin_value.ensures.noted c.begin_value.ensures.err c.begin_value.ensures.failed c.begin_value.ensures.stays
