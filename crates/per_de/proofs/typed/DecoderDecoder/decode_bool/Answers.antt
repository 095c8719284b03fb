use Rattle.per_de.proofs.Calls.{bool_answers}
use Rattle.per_de.proofs.InTurn.{begun_freely, still}
use Rattle.per_de.proofs.typed.DecoderDecoder.decode_bool.Goals as goal

pub returns : goal.returns
returns c = begun_freely _ c.in_ok-begin_value.ensures.noted (bool_answers c.begin_value.new.self c.take_bit.result _ (still c.args.self.now c.in_ok-begin_value.ensures.noted c.in_ok-begin_value.ensures.ok) c.take_bit.ensures)
