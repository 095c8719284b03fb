use Rattle.std.proofs.Common.{ap, ◌∙◌, length, refl, arith}
use Rattle.per_read.specs.ReaderState.{ReaderState}
use Rattle.per_de.proofs.AtPlaces.{reads_placed}
use Rattle.per_de.proofs.Calls.{no_more_left, reads_freely}
use Rattle.per_de.proofs.Enumerations.{no_item}
use Rattle.per_de.proofs.InTurn.{begun_freely, still}
use Rattle.per_de.proofs.counted.DecoderCountedDecoder.decode_item.Goals as goal

pub advance-requires : goal.advance-requires
advance-requires c =
    let taken = rw c.in-Some.is at c.take_short_item-taken.ensures.took in
    omega (arith, no_more_left taken.ok, c.len-left.ensures, ap length c.bits.ensures, ap (λ (x : ReaderState). length x.bits) c.reader-reader.ensures)

pub returns : goal.returns
returns c =
    let taken = rw c.in-Some.is at c.take_short_item-taken.ensures.took in
    begun_freely _ c.in_ok-begin_value.ensures.noted (reads_freely c.begin_value.new.self _ _ (still c.args.self.now c.in_ok-begin_value.ensures.noted c.in_ok-begin_value.ensures.ok) (λ p. reads_placed _ c.args.items p) c.reader-reader.ensures taken (c.len-left.ensures ∙ ap length c.bits.ensures) (refl, c.advance.ensures) (λ k h. (h.0, no_item _ _ _ _ h.1)))
