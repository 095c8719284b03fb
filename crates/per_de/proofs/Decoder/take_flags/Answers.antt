use Rattle.std.proofs.Common.{ap, ◌∙◌, length, refl, arith}
use Rattle.per_decoding.specs.Sources.{bits_of}
use Rattle.per_read.specs.ReaderState.{ReaderState}
use Rattle.per_de.proofs.Calls.{no_more_left}
use Rattle.per_de.proofs.Steps.{flags_in_place}
use Rattle.per_de.proofs.Decoder.take_flags.Goals as goal

pub advance-requires : goal.advance-requires
advance-requires c =
    let taken = rw c.in-Some.is at c.take_short_bitmap-taken.ensures in
    omega (arith, no_more_left taken.ok.held, c.len-left.ensures, ap length c.bits.ensures, ap (λ (x : ReaderState). length x.bits) c.reader-reader.ensures)

pub returns : goal.returns
returns c =
    flags_in_place c.args.self.now c.len-left.result c.advance.new.self c.reader-reader.ensures (rw c.in-Some.is at c.take_short_bitmap-taken.ensures) (bits_of c.self.inside.source) c.self.inside.bits c.in_front.result c.in-Some.count
    (ap (λ z. z.source.bits) c.self.view_is) c.self.invariant (ap (λ z. z.bits) c.self.view_is) (c.len-left.ensures ∙ ap length c.bits.ensures) c.in_front.ensures (refl, c.advance.ensures)
