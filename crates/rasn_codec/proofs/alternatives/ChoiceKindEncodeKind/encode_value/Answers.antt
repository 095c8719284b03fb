use Rattle.std.proofs.Common.{ap, rules}
use Rattle.std.proofs.lemmas.Result.{err_from_is_err_and}
use Rattle.rasn_schema.specs.Choices.{VariantShapes}
use Rattle.rasn_schema.specs.Components.{added_parts, root_parts}
use Rattle.rasn_traits.proofs.Alternatives.{alternative_closed, alternative_refused, alternative_unopened}
use Rattle.rasn_codec.proofs.alternatives.ChoiceKindEncodeKind.encode_value.Goals as goal

pub open_alternative-requires : goal.open_alternative-requires
open_alternative-requires g c = c.place-place.ensures.there

pub returns-in_err-outside : goal.returns-in_err-outside
returns-in_err-outside g c =
    let T = g.T.Alternatives in
    let p = err_from_is_err_and c.from_residual.result c.from_residual.ensures.1 in
    record {
      law = rw (p.1, p.2) (rw (← ap (λ (s : VariantShapes). s.behind) T.alternatives.1) (alternative_unopened g.E.Encoder.rules g.E.Encoder.opens_alternative (root_parts T.alternatives.0) (added_parts T.alternatives.0) T.ALTERNATIVES.behind
          (T.chosen c.args.value.now) (T.depth c.args.value.now) c.place-place.result c.place-place.ensures c.args.encoder.now c.open_alternative.new.self _ c.in_err-outside.ensures.law));
      behaves = search rules;
    }

pub returns-in_err-encode_alternative : goal.returns-in_err-encode_alternative
returns-in_err-encode_alternative g c =
    let T = g.T.Alternatives in
    let p = err_from_is_err_and c.from_residual-in_err-encode_alternative.result c.from_residual-in_err-encode_alternative.ensures.1 in
    record {
      law = rw (p.1, p.2) (rw (← ap (λ (s : VariantShapes). s.behind) T.alternatives.1) (alternative_refused g.E.Encoder.rules g.E.Encoder.opens_alternative (root_parts T.alternatives.0) (added_parts T.alternatives.0) T.ALTERNATIVES.behind
          (T.chosen c.args.value.now) (T.depth c.args.value.now) c.place-place.result c.place-place.ensures c.args.encoder.now c.open_alternative.new.self c.encode_alternative.new.encoder c.encode_alternative.new.encoder _ _ c.in_ok-outside.ensures.law c.in_err-encode_alternative.ensures.law));
      behaves = search rules;
    }

pub returns : goal.returns
returns g c =
    let T = g.T.Alternatives in
    record {
      law = rw (← ap (λ (s : VariantShapes). s.behind) T.alternatives.1) (alternative_closed g.E.Encoder.rules g.E.Encoder.opens_alternative (root_parts T.alternatives.0) (added_parts T.alternatives.0) T.ALTERNATIVES.behind
          (T.chosen c.args.value.now) (T.depth c.args.value.now) c.place-place.result c.place-place.ensures c.args.encoder.now c.open_alternative.new.self c.encode_alternative.new.encoder _ _ c.in_ok-outside.ensures.law c.in_ok-encode_alternative.ensures.law _ _ c.close_alternative.ensures);
      behaves = search rules;
    }
