use Rattle.std.proofs.Common.{◌≡◌, ap, is_some, ◌∙◌, refl, sym, inl, inr, subst, length, true, false, None, Some, Option, List}
use Rattle.std.proofs.lemmas.Result.{err_from_is_err_and}
use Rattle.rasn_schema.specs.Choices.{choices_of, is_extensible, StandsAt, VariantShape}
use Rattle.rasn_schema.specs.Structures.{tag_of}
use Rattle.rasn_schema.specs.declared.items.Place.{Place}
use Rattle.rasn_schema.specs.Laws.Choices.{variants_counted}
use Rattle.per_enc.specs.Rules.{noting}
use Rattle.per_write.specs.WriterState.{WriterState}
use Rattle.per_pieces.specs.Turns.{awaits}
use Rattle.per_enc.proofs.ChoiceScopes.{closes_choice, closes_well, marker_stated, none_found, some_found}
use Rattle.per_enc.proofs.NoOpenSet.{value_inside}
use Rattle.per_enc.proofs.Noting.{behaves_begun, written_noted}
use Rattle.per_enc.proofs.Turns.{choice_opened_well, not_failed_since, one_untimely}
use Rattle.per_enc.proofs.EncoderEncoder.close_choice.Goals as goal

pub returns-in_err-check_unfailed : goal.returns-in_err-check_unfailed
returns-in_err-check_unfailed g c =
    let p = err_from_is_err_and c.from_residual.result c.from_residual.ensures.1 in
    let C = g.C.Choice in
    record {
      law = rw (← c.self.view_is) (λ x i n d k s v h f a w. absurd (let e : true ≡ false = sym c.in_err-check_unfailed.ensures.failed ∙ w.written.left in cc));
      unknown = rw (p.1, p.2, ← c.self.view_is) (λ e f. inl c.in_err-check_unfailed.ensures.err);
      untimely = rw (← c.self.view_is) (λ x i n d k h f a came e. absurd (not_failed_since a (awaits 1) i _ h.inside (choice_opened_well (choices_of C.alternatives C.EXTENDED_VARIANTS C.added n) x i c.args.outside h).unfailed came c.in_err-check_unfailed.ensures.failed));
      behaves = rw (p.1, p.2, ← c.self.view_is) (record { again = λ q. c.in_err-check_unfailed.ensures.err; fails = c.in_err-check_unfailed.ensures.failed; kept = refl });
    }

pub returns-in_err-place : goal.returns-in_err-place
returns-in_err-place g c =
    let C = g.C.Choice in
    let t = tag_of c.args.chosen in
    let p = err_from_is_err_and c.from_residual-in_err-place.result c.from_residual-in_err-place.ensures.1 in
    let none : StandsAt t C.VARIANTS C.EXTENDED_VARIANTS None =
    subst (λ (q : Option Place). StandsAt t C.VARIANTS C.EXTENDED_VARIANTS q) c.in_err-place.ensures.none
    (subst (λ (xs : Option (List VariantShape)). StandsAt t C.VARIANTS xs c.place_of-found.result) c.EXTENDED_VARIANTS-added.ensures
    (subst (λ (vs : List VariantShape). StandsAt t vs c.EXTENDED_VARIANTS-added.result c.place_of-found.result) c.VARIANTS-variants.ensures c.place_of-found.ensures)) in
    record {
      law = rw (← c.self.view_is) (λ x i n d k s v h f a w. absurd (none_found t C.VARIANTS C.EXTENDED_VARIANTS d k none f));
      unknown = rw (p.1, p.2, ← c.self.view_is) (λ e f. inr c.in_err-place.ensures.err);
      untimely = rw (← c.self.view_is) (λ x i n d k h f a came e. absurd (none_found t C.VARIANTS C.EXTENDED_VARIANTS d k none f));
      behaves = rw (p.1, p.2, ← c.self.view_is) (behaves_begun c.in_ok-check_unfailed.ensures.ok c.in_err-place.ensures.fails c.in_err-place.ensures.kept);
    }

pub returns : goal.returns
returns g c =
    let C = g.C.Choice in
    let t = tag_of c.args.chosen in
    let stands : StandsAt t C.VARIANTS C.EXTENDED_VARIANTS (Some c.in_ok-place.place) =
    subst (λ (q : Option Place). StandsAt t C.VARIANTS C.EXTENDED_VARIANTS q) c.in_ok-place.ensures.ok
    (subst (λ (xs : Option (List VariantShape)). StandsAt t C.VARIANTS xs c.place_of-found.result) c.EXTENDED_VARIANTS-added.ensures
    (subst (λ (vs : List VariantShape). StandsAt t vs c.EXTENDED_VARIANTS-added.result c.place_of-found.result) c.VARIANTS-variants.ensures c.place_of-found.ensures)) in
    let counted : c.len.result ≡ length C.VARIANTS = c.len.ensures ∙ ap length c.VARIANTS-variants.ensures in
    let marked : c.is_some-marker.result ≡ is_extensible C.EXTENDED_VARIANTS = c.is_some-marker.ensures ∙ ap is_some c.EXTENDED_VARIANTS-added.ensures ∙ marker_stated C.EXTENDED_VARIANTS in
    let closes = closes_well c.args.outside.0.before c.is_some-marker.result c.len.result c.in_ok-place.place c.args.outside.0.scope c.checked_place.new.writer c.close_choice.new.writer c.close_choice.result c.close_choice.ensures in
    record {
      law = rw (← c.self.view_is) (λ x i n d k s v h p a w. written_noted x (record { writer = c.close_choice.new.writer; set = c.args.outside.1 }) _ _ c.close_choice.result
          (closes_choice C.EXTENDED_VARIANTS C.VARIANTS t (noting x).writer i.writer c.self.inside.writer c.checked_place.new.writer _ c.args.outside.0 (C.alternatives n) (C.added n) c.is_some-marker.result c.len.result c.in_ok-place.place d k s v c.close_choice.result
          marked (counted ∙ variants_counted (C.alternatives n) (C.described n)) (C.extends n) stands c.in_ok-place.ensures.stays c.close_choice.ensures h.opened p a (value_inside i _ s v h.inside w).0) h.waits);
      unknown = λ e f. absurd (some_found t C.VARIANTS C.EXTENDED_VARIANTS c.in_ok-place.place stands e f);
      untimely = rw (← c.self.view_is) (λ x i n d k h f. let o = choice_opened_well (choices_of C.alternatives C.EXTENDED_VARIANTS C.added n) x i c.args.outside h in one_untimely i _ c.close_choice.result h.inside o.presences o.additions (sym c.is_complete.ensures ∙ c.if-not-is_complete.false));
      behaves = rw (← c.self.view_is) (behaves_begun c.in_ok-check_unfailed.ensures.ok closes.0 (closes.1 ∙ ap (λ (z : WriterState). z.codec) c.in_ok-place.ensures.stays));
    }
