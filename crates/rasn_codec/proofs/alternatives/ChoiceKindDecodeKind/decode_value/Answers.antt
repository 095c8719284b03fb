use Rattle.std.proofs.Common.{ap, rules}
use Rattle.std.proofs.lemmas.Result.{err_from_is_err_and}
use Rattle.rasn_schema.specs.Choices.{VariantShapes, choices_of}
use Rattle.rasn_schema.specs.Components.{added_parts, root_parts}
use Rattle.rasn_traits.specs.Choices.{index_in, side_of}
use Rattle.rasn_traits.proofs.Alternatives.{placed_ended, placed_endless, placed_failed, placed_left}
use Rattle.rasn_codec.proofs.Decoded.{answered, refused}
use Rattle.rasn_codec.proofs.alternatives.ChoiceKindDecodeKind.decode_value.Goals as goal

pub decode_alternative-decoded-requires : goal.decode_alternative-decoded-requires
decode_alternative-decoded-requires g c = c.in_ok-place.ensures.law.among

pub returns-in_err-place : goal.returns-in_err-place
returns-in_err-place g c =
    let p = err_from_is_err_and c.from_residual.result c.from_residual.ensures.1 in
    record { law = rw (p.1, p.2) (rw (← ap (λ (s : VariantShapes). s.behind) g.T.Alternatives.alternatives.1) c.in_err-place.ensures.law); behaves = search rules }

pub returns-then-is_err : goal.returns-then-is_err
returns-then-is_err g c =
    let T = g.T.Alternatives in
    let o = c.in_ok-place.ensures.law in
    let d = side_of c.in_ok-place.place in
    let k = index_in c.in_ok-place.place in
    let choice = choices_of (root_parts T.alternatives.0) T.ALTERNATIVES.behind (added_parts T.alternatives.0) in
    let p = refused c.decode_alternative-decoded.result c.if-is_err.ensures.value in
    let a = (rw p.1 at c.decode_alternative-decoded.ensures).there o.schema o.there in
    record {
      law = rw p.1 (rw (← ap (λ (s : VariantShapes). s.behind) T.alternatives.1) (placed_failed g.met.D.Decoder.lawful g.met.D.Decoder.choices choice d k o.schema o.deeper o.there o.opened a));
      behaves = rw p.1 (let f = rw p.1 at c.decode_alternative-decoded.ensures in search (rules, f.behaves));
    }

pub returns-in_err-close_choice : goal.returns-in_err-close_choice
returns-in_err-close_choice g c =
    let T = g.T.Alternatives in
    let o = c.in_ok-place.ensures.law in
    let d = side_of c.in_ok-place.place in
    let k = index_in c.in_ok-place.place in
    let choice = choices_of (root_parts T.alternatives.0) T.ALTERNATIVES.behind (added_parts T.alternatives.0) in
    let q = answered c.decode_alternative-decoded.result c.if-is_err.ensures.value in
    let p = err_from_is_err_and c.from_residual-in_err-close_choice.result c.from_residual-in_err-close_choice.ensures.1 in
    let a = (rw q.1 at c.decode_alternative-decoded.ensures).there o.schema o.there in
    record {
      law = rw (p.1, p.2) (rw (← ap (λ (s : VariantShapes). s.behind) T.alternatives.1) (placed_endless g.met.D.Decoder.lawful g.met.D.Decoder.choices choice d k o.schema o.deeper o.there o.opened _ c.decode_alternative-decoded.new.decoder a
          (c.in_err-close_choice.ensures.law (placed_left g.met.D.Decoder.lawful g.met.D.Decoder.choices choice d k o.schema o.deeper o.there o.opened _ c.decode_alternative-decoded.new.decoder a))));
      behaves = search rules;
    }

pub returns : goal.returns
returns g c =
    let T = g.T.Alternatives in
    let o = c.in_ok-place.ensures.law in
    let d = side_of c.in_ok-place.place in
    let k = index_in c.in_ok-place.place in
    let choice = choices_of (root_parts T.alternatives.0) T.ALTERNATIVES.behind (added_parts T.alternatives.0) in
    let q = answered c.decode_alternative-decoded.result c.if-is_err.ensures.value in
    let a = (rw q.1 at c.decode_alternative-decoded.ensures).there o.schema o.there in
    record {
      law = rw q.1 (rw (← ap (λ (s : VariantShapes). s.behind) T.alternatives.1) (placed_ended g.met.D.Decoder.lawful g.met.D.Decoder.choices choice d k o.schema o.deeper o.there o.opened _ c.decode_alternative-decoded.new.decoder _ a
          (c.in_ok-close_choice.ensures.law (placed_left g.met.D.Decoder.lawful g.met.D.Decoder.choices choice d k o.schema o.deeper o.there o.opened _ c.decode_alternative-decoded.new.decoder a))));
      behaves = rw q.1 (let f = rw q.1 at c.decode_alternative-decoded.ensures in search (rules, f.behaves));
    }
