use Rattle.std.proofs.Common.{ap, ◌∙◌, length, refl}
use Rattle.rasn_schema.specs.Enumerations.{addeds_of}
use Rattle.per_de.proofs.Steps.{index_taken}
use Rattle.per_de.proofs.Decoder.take_any_place.Goals as goal

pub returns : goal.returns
returns c =
    index_taken c.args.alternatives.roots (addeds_of c.args.alternatives.addeds) _ _ _ c.args.self.now c.answer.new.self c.answer.result refl refl
    c.reader-reader.ensures c.take_choice_index-taken.ensures (c.len-left.ensures ∙ ap length c.bits.ensures) c.answer.ensures
