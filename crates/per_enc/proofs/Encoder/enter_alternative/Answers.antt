use Rattle.std.proofs.Common.{ap, ◌∙◌, subst}
use Rattle.per_write.specs.Components.{Encoding}
use Rattle.per_enc.specs.Placed.{OpensPlaced}
use Rattle.per_enc.proofs.PlacedChoices.{choice_placed}
use Rattle.per_enc.proofs.Noting.{behaves_begun, noting_codec}
use Rattle.per_enc.proofs.Encoder.enter_alternative.Goals as goal

pub returns : goal.returns
returns g c =
    let m = c.self.view_is ∙ c.in_ok-set.ensures.inside in
    record {
      law = choice_placed c.args.alternatives c.args.place c.args.self.now (record { writer = c.open_placed.new.writer; set = c.awaiting.result }) c.in_ok-choice.choice c.in_ok-set.set c.in_ok-set.ensures.waits c.awaiting.ensures
          (subst (λ (z : Encoding). OpensPlaced c.args.alternatives c.args.place z.writer c.in_ok-choice.choice c.open_placed.new.writer) m c.in_ok-choice.ensures.ok);
      behaves = behaves_begun c.in_ok-set.ensures.ok tt (c.in_ok-choice.ensures.kept ∙ ap (λ (z : Encoding). z.writer.codec) m ∙ noting_codec c.args.self.now);
    }
