use Rattle.std.proofs.Common.{ap, ap₂, ◌∙◌, length}
use Rattle.std.specs.Prelude.{count_by, nat_lt}
use Rattle.std.proofs.lemmas.Result.{err_from_is_err_and}
use Rattle.rasn_schema.specs.Fields.{may_be_absent}
use Rattle.rasn_schema.specs.Normal.{settle}
use Rattle.rasn_schema.specs.Schemas.{group}
use Rattle.rasn_traits.proofs.Optionals.{bits_counted}
use Rattle.per_pieces.specs.Turns.{awaits, is_complete}
use Rattle.per_enc.proofs.AroundSets.{addition_closed}
use Rattle.per_enc.proofs.GivenAdditions.{family_closed, required_counted, shapes_counted}
use Rattle.per_enc.proofs.NoOpenSet.{value_inside}
use Rattle.per_enc.proofs.Noting.{behaves_begun}
use Rattle.per_enc.proofs.Turns.{addition_untimely, behaves_unclosed, not_unclosed, unclosed_untimely, unfailed_in_addition}
use Rattle.per_enc.proofs.EncoderEncoder.close_group.Goals as goal

pub returns-in_err-check_scope : goal.returns-in_err-check_scope
returns-in_err-check_scope g c =
    let p = err_from_is_err_and c.from_residual.result c.from_residual.ensures.1 in
    let j = c.args.self.now in
    let u = c.in_err-check_scope.ensures.err in
    rw (p.1, p.2) (record {
      law = λ x i n v h w. absurd (not_unclosed _ j u w.written.left (ap is_complete (value_inside i j _ v h.inside w).1));
      untimely = λ x i h. unclosed_untimely _ i j (awaits 1) _ h.inside (unfailed_in_addition x i c.args.addition h) u;
      behaves = behaves_unclosed _ j _ u c.in_err-check_scope.ensures.fails c.in_err-check_scope.ensures.kept;
    })

pub returns : goal.returns
returns g c =
    let C = g.C.Constructed in
    let schema = g.C.AsnType.schema g.C.AsnType.CONSTRAINTS in
    let m = c.self.view_is ∙ c.in_ok-check_scope.ensures.stays in
    rw (← m) (record {
      law = λ x i n v h w. addition_closed (schema n) (settle group (schema n) v) x (record { writer = c.close_group.new.self; set = c.args.addition.1 }) c.close_group.result h.waits
          (family_closed C.parts C.IS_EXTENSIBLE C.additions schema (g.met.C.AdditionGroup.is_sequence g.C.AsnType.CONSTRAINTS) x.writer i.writer c.self.inside.writer _ c.args.addition.0 n v _ c.close_group.result
          (λ m. ap₂ nat_lt (c.number_of_optional_and_default_fields.ensures ∙ ap (count_by may_be_absent) (c.FIELDS-fields.ensures ∙ C.described m) ∙ bits_counted 0 (C.parts m))
          (c.len.ensures ∙ ap length (c.FIELDS-fields.ensures ∙ C.described m) ∙ shapes_counted 0 (C.parts m)) ∙ required_counted (C.parts m)) h.opened (value_inside i _ (schema n) v h.inside w).0 c.close_group.ensures);
      untimely = λ x i h. addition_untimely x i _ c.args.addition c.close_group.result h (rw (← m) at c.in_ok-check_scope.ensures.complete);
      behaves = behaves_begun (rw (← m) at c.in_ok-check_scope.ensures.begun) c.close_group.ensures.fails c.close_group.ensures.kept;
    })
