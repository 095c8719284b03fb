use Rattle.std.proofs.Common.{ap, ◌∙◌, length}
use Rattle.rasn_types.specs.Values.{octets}
use Rattle.per_de.proofs.Calls.{reads}
use Rattle.per_de.proofs.StringCalls.{faulty_octets, reads_octets}
use Rattle.per_de.proofs.Decoder.copy_octets.Goals as goal

pub returns : goal.returns
returns c =
    reads c.args.self.now _ (λ os. octets os.items) c.in_ok-check_unfailed.ensures.ok (λ v. reads_octets _ _ _ _) c.reader-reader.ensures c.take_octet_string-taken.ensures (c.len-left.ensures ∙ ap length c.bits.ensures) c.answer.ensures (λ k. faulty_octets _ _ _ _ k)
