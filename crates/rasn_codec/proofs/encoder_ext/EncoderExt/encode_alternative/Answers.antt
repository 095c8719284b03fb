use Rattle.std.proofs.Common.{◌≡◌, refl, rules, ℕ, suc, List, Option, Some, None, Result, Err, inl, inr, IsErrAnd}
use Rattle.rasn_types.specs.Values.{Value, alternative, Side, root, added}
use Rattle.rasn_schema.specs.Choices.{VariantShape, choices_of, one_level_in, place_of, variants_after, variants_on}
use Rattle.rasn_schema.specs.Structures.{alternative_in, tag_of}
use Rattle.rasn_schema.specs.Schemas
use Rattle.rasn_schema.specs.Schemas.{Schema}
use Rattle.rasn_schema.specs.Normal.{normal, AtDepths}
use Rattle.rasn_traits.specs.Calls.{Behaves, EncoderRules, Encodes, Written}
use Rattle.rasn_traits.specs.Choices.{EncodesAlternative, EncodesAt, PassesChoice, RefusesUnknown, unknown_tag, unknown_unopened, unknown_value}
use Rattle.std.proofs.lemmas.Result.{err_from_is_err_and}
use Rattle.rasn_traits.proofs.Alternatives.{choice_refused, choice_closed}
use Rattle.rasn_codec.proofs.encoder_ext.EncoderExt.encode_alternative.Goals as goal

-- what is owed where a tag has a place is shown for each place
at_place : {E X : Type 0} (rules : EncoderRules E X) (choice : ℕ → Schema) (d : Side) (place : Option ℕ) (schema : ℕ → Schema) (depth : ℕ) (v : Value) (x : X) (r : Result (Unit {0}) E) (y : X)
    → ((k : ℕ) → place ≡ Some k → ((n : ℕ) → alternative_in (choice n) d k ≡ Some (schema n)) → Encodes rules (one_level_in choice) (suc depth) (alternative d k v) x r y)
    → EncodesAt rules choice d place schema depth v x r y
at_place rules choice d None schema depth v x r y f = tt
at_place rules choice d (Some k) schema depth v x r y f = f k refl

both : {E X : Type 0} (rules : EncoderRules E X) (choice : ℕ → Schema) (vs : List VariantShape) (xs : Option (List VariantShape)) (tag : Schemas.Tag) (schema : ℕ → Schema) (depth : ℕ) (v : Value) (x : X) (r : Result (Unit {0}) E) (y : X)
    → ((d : Side) (k : ℕ) → place_of tag (variants_on d vs xs) ≡ Some k → ((n : ℕ) → alternative_in (choice n) d k ≡ Some (schema n)) → Encodes rules (one_level_in choice) (suc depth) (alternative d k v) x r y)
    → (place_of tag vs ≡ None → place_of tag (variants_after xs) ≡ None → IsErrAnd r (RefusesUnknown rules choice schema depth v x))
    → Behaves rules.already rules.failed rules.codec x r y
    → EncodesAlternative rules choice vs xs tag schema depth v x r y
both rules choice vs xs tag schema depth v x r y f u b = record {
  before = at_place rules choice root (place_of tag vs) schema depth v x r y (f root);
  behind = at_place rules choice added (place_of tag (variants_after xs)) schema depth v x r y (f added);
  unknown = u;
  behaves = b;
}

-- a value that is refused inside a choice, under a tag by which no alternative goes
value_refused : {E X : Type 0} (rules : EncoderRules E X) (choice schema : ℕ → Schema) (depth : ℕ) (v : Value) (x i y : X) (e : E) → ((n : ℕ) → PassesChoice rules (choice n) x i)
    → AtDepths schema depth (λ s. Written rules s (normal s v) i (Err e) y) → RefusesUnknown rules choice schema depth v x e
value_refused rules choice schema depth v x i y e passes w = unknown_value {i = i} (record { at = λ n le. elim (w.at n le) [ inl m ↦ inl ((passes n).room e m) | inr q ↦ inr q ] })

pub returns-in_err-outside : goal.returns-in_err-outside
returns-in_err-outside g c =
    let r = err_from_is_err_and c.from_residual.result c.from_residual.ensures.1 in
    both g.Self.Encoder.rules (choices_of g.C.Choice.alternatives g.C.Choice.EXTENDED_VARIANTS g.C.Choice.added) g.C.Choice.VARIANTS g.C.Choice.EXTENDED_VARIANTS (tag_of c.args.chosen)
    (g.T.AsnType.schema g.T.AsnType.CONSTRAINTS) (g.T.AsnType.levels c.args.value.now) (g.T.AsnType.value c.args.value.now) c.args.self.now _ _ (λ d k place there. search rules)
    (λ p q. rw (r.1, r.2) (unknown_unopened c.in_err-outside.ensures.law)) (search rules)

pub returns-in_err-encode_with_tag : goal.returns-in_err-encode_with_tag
returns-in_err-encode_with_tag g c =
    let p = err_from_is_err_and c.from_residual-in_err-encode_with_tag.result c.from_residual-in_err-encode_with_tag.ensures.1 in
    let o = c.in_ok-outside.ensures.law in
    both g.Self.Encoder.rules (choices_of g.C.Choice.alternatives g.C.Choice.EXTENDED_VARIANTS g.C.Choice.added) g.C.Choice.VARIANTS g.C.Choice.EXTENDED_VARIANTS (tag_of c.args.chosen)
    (g.T.AsnType.schema g.T.AsnType.CONSTRAINTS) (g.T.AsnType.levels c.args.value.now) (g.T.AsnType.value c.args.value.now) c.args.self.now _ _ (λ d k place there. record {
      law = rw (p.1, p.2) (choice_refused g.Self.Encoder.rules (choices_of g.C.Choice.alternatives g.C.Choice.EXTENDED_VARIANTS g.C.Choice.added) (variants_on d g.C.Choice.VARIANTS g.C.Choice.EXTENDED_VARIANTS) d k _ _ _
          c.open_choice.new.self c.encode_with_tag.new.encoder c.args.self.now _ (λ n. (o n).1) (record { at = λ n le. (_, there n, c.in_err-encode_with_tag.ensures.law.at n le) }));
      behaves = search rules;
    })
    (λ _ _. rw (p.1, p.2) (value_refused g.Self.Encoder.rules (choices_of g.C.Choice.alternatives g.C.Choice.EXTENDED_VARIANTS g.C.Choice.added) (g.T.AsnType.schema g.T.AsnType.CONSTRAINTS) _ _
    c.args.self.now c.open_choice.new.self c.encode_with_tag.new.encoder _ (λ n. (o n).1) c.in_err-encode_with_tag.ensures.law))
    (search rules)

pub returns : goal.returns
returns g c =
    let o = c.in_ok-outside.ensures.law in
    both g.Self.Encoder.rules (choices_of g.C.Choice.alternatives g.C.Choice.EXTENDED_VARIANTS g.C.Choice.added) g.C.Choice.VARIANTS g.C.Choice.EXTENDED_VARIANTS (tag_of c.args.chosen)
    (g.T.AsnType.schema g.T.AsnType.CONSTRAINTS) (g.T.AsnType.levels c.args.value.now) (g.T.AsnType.value c.args.value.now) c.args.self.now _ _ (λ d k place there. record {
      law = choice_closed g.Self.Encoder.rules g.Self.Encoder.opens_choice (choices_of g.C.Choice.alternatives g.C.Choice.EXTENDED_VARIANTS g.C.Choice.added) g.C.Choice.VARIANTS g.C.Choice.EXTENDED_VARIANTS d k _ _
          c.args.self.now c.open_choice.new.self c.encode_with_tag.new.encoder _ _ (λ n. (o n).0)
          (record { at = λ n le. (_, there n, (place, c.in_ok-encode_with_tag.ensures.law.at n le)) }) _ _ c.close_choice.ensures;
      behaves = search rules;
    })
    (λ n m. let q = err_from_is_err_and c.close_choice.result (c.close_choice.ensures.unknown n m) in rw q.1 (unknown_tag q.2))
    (search rules)
