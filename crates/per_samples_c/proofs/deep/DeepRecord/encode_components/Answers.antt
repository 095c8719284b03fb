use Rattle.std.proofs.Common.{ap, rules, ◌∙◌}
use Rattle.rasn_below.specs.Values.{same, sequence_value}
use Rattle.per_samples_c.specs.Deeps.{nest_with}
use Rattle.per_samples_c.specs.Nests.{nest_contents}
use Rattle.per_samples_c.proofs.Alone.{alone_normal, alone_written}
use Rattle.per_samples_c.proofs.Defaults.{normal_sequence}
use Rattle.per_samples_c.proofs.deep.DeepRecord.encode_components.Goals as goal

pub returns : goal.returns
returns g c =
    let w = c.encode_default_with_tag.ensures.law (nest_with 199) (record { says = λ b r. record { at = λ n le. rw (normal_sequence n c.args.self.now.d) (r.1 ∙ ap (λ y. same (sequence_value (nest_contents y)) (nest_with 199)) r.2) } }) in
    record {
      law = record { at = λ n le. rw (alone_normal _ _ _ _) (alone_written g.E.Encoder.rules _ _ _ _ _ _ _ (w.at n le)) };
      fails = search rules;
      kept = search rules;
    }
