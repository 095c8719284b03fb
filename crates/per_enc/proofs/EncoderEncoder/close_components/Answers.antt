use Rattle.std.proofs.Common.{ap, inl, inr, refl, sym, ◌∙◌, true, false, Some, None, rules}
use Rattle.std.proofs.lemmas.Result.{err_from_is_err_and}
use Rattle.per_pieces.specs.Turns.{gathered}
use Rattle.per_enc.proofs.SetCalls.{is_gathered, set_closed, set_is_open, set_unput}
use Rattle.per_enc.proofs.SetTurns.{open_since, set_untimely}
use Rattle.per_enc.proofs.Noting.{behaves_begun}
use Rattle.per_enc.proofs.EncoderEncoder.close_components.Goals as goal

pub returns-in_err-check_unfailed : goal.returns-in_err-check_unfailed
returns-in_err-check_unfailed g c =
    let C = g.C.Constructed in
    let p = err_from_is_err_and c.from_residual.result c.from_residual.ensures.1 in
    let f = c.in_err-check_unfailed.ensures.failed in
    record {
      closes = record {
        law = rw (← c.self.view_is) (λ x i n rs xs h k. absurd (let u = (set_is_open (C.parts n) C.IS_EXTENSIBLE (C.additions n) x i _ rs xs c.args.outside h k).2 in cc));
        behaves = rw (p.1, p.2, ← c.self.view_is) (record { again = λ q. c.in_err-check_unfailed.ensures.err; fails = f; kept = refl });
      };
      untimely = rw (← c.self.view_is) (λ x i n h a k d. absurd (let u = (open_since (C.parts n) C.IS_EXTENSIBLE (C.additions n) x i _ c.args.outside h a k).2 in cc));
    }

pub returns-in_default : goal.returns-in_default
returns-in_default g c =
    let C = g.C.Constructed in
    record {
      closes = record {
        law = rw (← c.self.view_is) (λ x i n rs xs h k. absurd (let s = (set_is_open (C.parts n) C.IS_EXTENSIBLE (C.additions n) x i _ rs xs c.args.outside h k).1 in let t = c.take_open.ensures.value ∙ ap gathered s in let d = c.in_default.is in cc));
        behaves = search rules;
      };
      untimely = rw (← c.self.view_is) (λ x i n h a k e. absurd (let s = (open_since (C.parts n) C.IS_EXTENSIBLE (C.additions n) x i _ c.args.outside h a k).1 in let t = c.take_open.ensures.value ∙ ap gathered s in let d = c.in_default.is in cc));
    }

pub returns-in_err-put_components : goal.returns-in_err-put_components
returns-in_err-put_components g c =
    let C = g.C.Constructed in
    let p = err_from_is_err_and c.from_residual-in_err-put_components.result c.from_residual-in_err-put_components.ensures.1 in
    let err = c.in_err-put_components.ensures.err in
    record {
      closes = record {
        law = rw (p.1, p.2, ← c.self.view_is) (λ x i n rs xs h k. set_unput (C.parts n) C.IS_EXTENSIBLE (C.additions n) x i _ (record { writer = c.put_components.new.self; set = c.take_open.new.self }) rs xs c.args.outside c.FIELDS.result c.in-Some.set _ (λ m. C.extends.marked m n) (c.FIELDS.ensures ∙ C.described n) h k (is_gathered _ c.in-Some.set (sym c.in-Some.ensures.value)) err);
        behaves = rw (p.1, p.2, ← c.self.view_is) (behaves_begun c.in_ok-check_unfailed.ensures.ok c.in_err-put_components.ensures.fails c.in_err-put_components.ensures.kept);
      };
      untimely = rw (p.1, p.2, ← c.self.view_is) (λ x i n h a k d. elim err [ inl m ↦ inl m | inr u ↦ inr u.0 ]);
    }

pub returns : goal.returns
returns g c =
    let C = g.C.Constructed in
    record {
      closes = record {
        law = rw (← c.self.view_is) (λ x i n rs xs h k. set_closed (C.parts n) C.IS_EXTENSIBLE (C.additions n) x i _ (record { writer = c.close_record.new.self; set = c.args.outside.1 }) rs xs c.args.outside c.FIELDS.result c.in-Some.set c.put_components.new.self c.close_record.result (λ m. C.extends.marked m n) (c.FIELDS.ensures ∙ C.described n) h k (is_gathered _ c.in-Some.set (sym c.in-Some.ensures.value)) c.in_ok-put_components.ensures.ok c.close_record.ensures refl);
        behaves = rw (← c.self.view_is) (behaves_begun c.in_ok-check_unfailed.ensures.ok c.close_record.ensures.fails (c.close_record.ensures.kept ∙ c.in_ok-put_components.ensures.kept));
      };
      untimely = rw (← c.self.view_is) (λ x i n h. set_untimely (C.parts n) C.IS_EXTENSIBLE (C.additions n) x i _ c.args.outside h c.FIELDS.result c.in-Some.set c.put_components.new.self _ c.close_record.result (λ m. C.extends.marked m n) (c.FIELDS.ensures ∙ C.described n) (is_gathered _ c.in-Some.set (sym c.in-Some.ensures.value)) c.in_ok-put_components.ensures.ok c.close_record.ensures);
    }
