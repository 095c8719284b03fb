use Rattle.rasn_traits.proofs.Places.{placed_to_read}
use Rattle.per_decoding.specs.Rules.{decoder_rules}
use Rattle.per_de.specs.InTurn.{is_choice_in_turn}
use Rattle.per_de.proofs.typed.DecoderDecoder.open_alternative.Goals as goal

pub returns : goal.returns
returns g c =
    let C = g.C.Choice in
    placed_to_read decoder_rules is_choice_in_turn C.alternatives C.added C.VARIANTS C.EXTENDED_VARIANTS C.described C.extends c.args.self.now c.begin_alternative.result c.begin_alternative.new.self
    (rw c.alternative_counts.ensures at c.begin_alternative.ensures)
