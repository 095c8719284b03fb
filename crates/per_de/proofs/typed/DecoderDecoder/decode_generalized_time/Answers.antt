use Rattle.std.proofs.Common.{ap, ◌∙◌, length}
use Rattle.rasn_types.specs.Contents.{generalized}
use Rattle.per_de.proofs.Calls.{reads}
use Rattle.per_de.proofs.MomentCalls.{reads_time, faulty_time}
use Rattle.per_de.proofs.InTurn.{begun, still}
use Rattle.per_de.proofs.typed.DecoderDecoder.decode_generalized_time.Goals as goal

pub returns : goal.returns
returns g c =
    begun _ c.in_ok-begin_value.ensures.noted (reads c.begin_value.new.self _ _ (still c.args.self.now c.in_ok-begin_value.ensures.noted c.in_ok-begin_value.ensures.ok) (λ v. reads_time _ generalized _) c.reader-reader.ensures c.take_generalized_time-taken.ensures (c.len-left.ensures ∙ ap length c.bits.ensures) c.answer.ensures (λ k. faulty_time _ generalized _ k))
