use Rattle.rasn_jer.proofs.Choosing.{choice_opened}
use Rattle.rasn_schema.specs.Choices.{is_extensible}
use Rattle.rasn_jer.proofs.encoder.EncoderEncoder.open_choice.Goals as goal

pub returns : goal.returns
returns g c =
    let C = g.C.Choice in
    record {
      law = choice_opened C.alternatives C.added (is_extensible C.EXTENDED_VARIANTS) c.args.self.now c.enter_choice.result c.enter_choice.new.self c.enter_choice.ensures;
      behaves = c.enter_choice.ensures.behaves;
    }
