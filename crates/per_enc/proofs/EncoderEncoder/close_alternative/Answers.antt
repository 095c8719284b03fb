use Rattle.std.proofs.Common.{ap, ◌∙◌}
use Rattle.std.proofs.lemmas.Result.{err_from_is_err_and}
use Rattle.rasn_types.specs.Values.{alternative}
use Rattle.per_pieces.specs.Turns.{awaits, is_complete}
use Rattle.per_enc.specs.Rules.{noting}
use Rattle.per_enc.proofs.PlacedChoices.{choice_closed, closes_well}
use Rattle.per_enc.proofs.NoOpenSet.{value_inside}
use Rattle.per_enc.proofs.Noting.{behaves_begun, written_noted}
use Rattle.per_enc.proofs.Turns.{behaves_unclosed, not_unclosed, one_untimely, placed_opened_well, unclosed_untimely}
use Rattle.per_enc.proofs.EncoderEncoder.close_alternative.Goals as goal

pub returns-in_err-check_scope : goal.returns-in_err-check_scope
returns-in_err-check_scope g c =
    let p = err_from_is_err_and c.from_residual.result c.from_residual.ensures.1 in
    let j = c.args.self.now in
    let u = c.in_err-check_scope.ensures.err in
    rw (p.1, p.2) (record {
      law = λ x i t d k s v h e w. absurd (not_unclosed _ j u w.written.left (ap is_complete (value_inside i j s v h.inside w).1));
      untimely = λ x i t d k h. unclosed_untimely _ i j (awaits 1) _ h.inside (placed_opened_well t d k x i c.args.outside h).unfailed u;
      behaves = behaves_unclosed _ j _ u c.in_err-check_scope.ensures.fails c.in_err-check_scope.ensures.kept;
    })

pub returns : goal.returns
returns g c =
    let m = c.self.view_is ∙ c.in_ok-check_scope.ensures.stays in
    let begun = (rw (← m) at c.in_ok-check_scope.ensures.begun) in
    let complete = (rw (← m) at c.in_ok-check_scope.ensures.complete) in
    let y = c.close_placed.new.writer in
    let closes = closes_well c.args.outside.0.before c.args.outside.0.scope c.self.inside.writer y c.close_placed.result c.close_placed.ensures in
    rw (← m) (record {
      law = λ x i t d k s v h e w. written_noted x (record { writer = y; set = c.args.outside.1 }) t (alternative d k v) c.close_placed.result
          (choice_closed (noting x).writer i.writer c.self.inside.writer y c.args.outside.0 t d k s v c.close_placed.result h.opened e (value_inside i _ s v h.inside w).0 c.close_placed.ensures) h.waits;
      untimely = λ x i t d k h. let o = placed_opened_well t d k x i c.args.outside h in one_untimely i _ c.close_placed.result h.inside o.presences o.additions complete;
      behaves = behaves_begun begun closes.0 closes.1;
    })
