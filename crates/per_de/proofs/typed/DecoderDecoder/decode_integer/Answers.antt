use Rattle.std.proofs.Common.{ap, ◌∙◌, length, refl, arith}
use Rattle.per_read.specs.ReaderState.{ReaderState}
use Rattle.per_de.proofs.Calls.{faulty_whole, no_more_left, reads, reads_whole}
use Rattle.per_de.proofs.InTurn.{begun, still}
use Rattle.per_de.proofs.typed.DecoderDecoder.decode_integer.Goals as goal

pub advance-requires : goal.advance-requires
advance-requires g c =
    let taken = rw c.in-Some.is at c.take_short_integer-taken.ensures.took in
    omega (arith, no_more_left taken.ok, c.len-left.ensures, ap length c.bits.ensures, ap (λ (x : ReaderState). length x.bits) c.reader-reader.ensures)

pub returns : goal.returns
returns g c =
    let taken = rw c.in-Some.is at c.take_short_integer-taken.ensures.took in
    begun _ c.in_ok-begin_value.ensures.noted (reads c.begin_value.new.self _ _ (still c.args.self.now c.in_ok-begin_value.ensures.noted c.in_ok-begin_value.ensures.ok) (λ v. reads_whole _ _ _ _ _ _ _) c.reader-reader.ensures taken (c.len-left.ensures ∙ ap length c.bits.ensures) (refl, c.advance.ensures) (λ k. faulty_whole _ _ _ _ _ k))
