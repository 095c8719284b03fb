use Rattle.std.proofs.Common.{ap, ◌∙◌, length}
use Rattle.std.proofs.lemmas.Result.{err_from_is_err_and}
use Rattle.per_decoding.specs.Sources.{bits_of}
use Rattle.per_de.proofs.Steps.{flags_gathered, flags_in_place, no_bitmap_taken}
use Rattle.per_de.proofs.Decoder.take_any_flags.Goals as goal

pub returns-in_err-count : goal.returns-in_err-count
returns-in_err-count c =
    let p = err_from_is_err_and c.from_residual.result c.from_residual.ensures.1 in
    rw (p.1, p.2) (no_bitmap_taken c.args.self.now c.len-left.result c.answer.new.self c.reader-reader.ensures c.take_bitmap-taken.ensures _ c.in_err-count.ensures)

pub returns-in-InPlace : goal.returns-in-InPlace
returns-in-InPlace c =
    flags_in_place c.args.self.now c.len-left.result c.answer.new.self c.reader-reader.ensures c.take_bitmap-taken.ensures (bits_of c.self.inside.source) c.self.inside.bits c.in_front.result c.in-InPlace.count
    (ap (λ z. z.source.bits) c.self.view_is) c.self.invariant (ap (λ z. z.bits) c.self.view_is) (c.len-left.ensures ∙ ap length c.bits.ensures) c.in_front.ensures (rw c.in-InPlace.is at c.in_ok-count.ensures)

pub returns-in-Gathered : goal.returns-in-Gathered
returns-in-Gathered c =
    flags_gathered c.args.self.now c.len-left.result c.answer.new.self c.reader-reader.ensures c.take_bitmap-taken.ensures c.in-Gathered.bits (c.len-left.ensures ∙ ap length c.bits.ensures) (rw c.in-Gathered.is at c.in_ok-count.ensures)
