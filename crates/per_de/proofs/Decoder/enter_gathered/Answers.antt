use Rattle.std.proofs.Common.{◌≡◌, ◌*◌, arith, length, rules}
use Rattle.rasn_types.specs.Bits.{unpack}
use Rattle.rasn_types.proofs.Bits.{length-unpack}
use Rattle.per_decoding.proofs.Spans.{span_whole}
use Rattle.per_de.proofs.Decoder.enter_gathered.Goals as goal

pub invariant_of-self : goal.invariant_of-self
invariant_of-self c = rw (c.replace.ensures.after, c.replace-2.ensures.after) (record { ordered = omega arith; enough = omega (arith, c.len.ensures, length-unpack c.args.octets.items) })

pub returns : goal.returns
returns c =
    let total : 8 * c.len.result ≡ length (unpack c.args.octets.items) = omega (arith, c.len.ensures, length-unpack c.args.octets.items) in
    record {
      inside = rw (c.replace.ensures.after, c.replace-2.ensures.after) (span_whole (unpack c.args.octets.items) (8 * c.len.result) total);
      waits = rw (← total) (search rules);
      same = search rules;
    }
