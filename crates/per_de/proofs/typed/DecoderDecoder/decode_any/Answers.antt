use Rattle.std.proofs.Common.{ap, ◌∙◌, length}
use Rattle.rasn_types.specs.Values.{octets}
use Rattle.per_de.proofs.Calls.{reads, reads_ok, reads_err}
use Rattle.per_de.proofs.StringCalls.{reads_any, faulty_any}
use Rattle.per_de.proofs.InTurn.{begun, still}
use Rattle.per_de.proofs.typed.DecoderDecoder.decode_any.Goals as goal

pub returns-in_err-octets : goal.returns-in_err-octets
returns-in_err-octets c =
    begun _ c.in_ok-begin_value.ensures.noted (reads_err _ _ c.from_residual-in_err-octets.ensures.1 (reads c.begin_value.new.self _ (λ os. octets os.items) (still c.args.self.now c.in_ok-begin_value.ensures.noted c.in_ok-begin_value.ensures.ok) (λ v. reads_any _ _) c.reader-reader.ensures c.take_octets-taken.ensures (c.len-left.ensures ∙ ap length c.bits.ensures) c.in_err-octets.ensures (λ k. faulty_any _ _ k)))

pub returns : goal.returns
returns c =
    begun _ c.in_ok-begin_value.ensures.noted (reads_ok _ _ (ap octets c.new.ensures) (reads c.begin_value.new.self _ (λ os. octets os.items) (still c.args.self.now c.in_ok-begin_value.ensures.noted c.in_ok-begin_value.ensures.ok) (λ v. reads_any _ _) c.reader-reader.ensures c.take_octets-taken.ensures (c.len-left.ensures ∙ ap length c.bits.ensures) c.in_ok-octets.ensures (λ k. faulty_any _ _ k)))
