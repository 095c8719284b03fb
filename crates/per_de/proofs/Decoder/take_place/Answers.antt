use Rattle.std.proofs.Common.{ap, ◌∙◌, length, refl, arith}
use Rattle.std.specs.Prelude.{Ok}
use Rattle.rasn_schema.specs.Enumerations.{addeds_of}
use Rattle.per_read.specs.ReaderState.{ReaderState}
use Rattle.per_de.proofs.Calls.{no_more_left}
use Rattle.per_de.proofs.Steps.{index_taken}
use Rattle.per_de.proofs.Decoder.take_place.Goals as goal

pub returns : goal.returns
returns c =
    index_taken c.args.alternatives.roots (addeds_of c.args.alternatives.addeds) _ _ _ c.args.self.now c.advance.new.self (Ok c.in-Some.place) refl refl
    c.reader-reader.ensures (rw c.in-Some.is at c.take_root_index-taken.ensures.took) (c.len-left.ensures ∙ ap length c.bits.ensures) (refl, c.advance.ensures)

pub advance-requires : goal.advance-requires
advance-requires c =
    let taken = rw c.in-Some.is at c.take_root_index-taken.ensures.took in
    omega (arith, no_more_left taken.ok, c.len-left.ensures, ap length c.bits.ensures, ap (λ (x : ReaderState). length x.bits) c.reader-reader.ensures)
