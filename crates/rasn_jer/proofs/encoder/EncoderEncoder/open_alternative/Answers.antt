use Rattle.rasn_jer.proofs.Choosing.{alternative_opened}
use Rattle.rasn_schema.specs.Choices.{is_extensible}
use Rattle.rasn_traits.specs.Choices.{index_in, side_of}
use Rattle.rasn_jer.proofs.encoder.EncoderEncoder.open_alternative.Goals as goal

pub returns : goal.returns
returns g c =
    let C = g.C.Choice in
    record {
      law = alternative_opened C.alternatives C.added (is_extensible C.EXTENDED_VARIANTS) c.args.self.now (side_of c.args.place) (index_in c.args.place) c.enter_choice.result c.enter_choice.new.self c.enter_choice.ensures;
      behaves = c.enter_choice.ensures.behaves;
    }
