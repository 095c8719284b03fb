use Rattle.std.proofs.Common.{◌≡◌, ap, ◌∙◌, subst, Some}
use Rattle.std.proofs.lemmas.Result.{err_from_is_err_and}
use Rattle.rasn_schema.specs.Schemas.{Schema}
use Rattle.rasn_types.specs.Variants.{variant_of}
use Rattle.per_core.specs.Counts.{open_bits}
use Rattle.per_pieces.specs.Pieces.{Pieces, placed_bits}
use Rattle.per_pieces.specs.Turns.{awaits, is_complete}
use Rattle.per_write.specs.Faults.{IsMemory}
use Rattle.per_write.specs.WriterState.{Puts, WriterState, view}
use Rattle.per_enc.specs.Rules.{noting}
use Rattle.per_enc.proofs.Contents.{contents_closed}
use Rattle.per_enc.proofs.NoOpenSet.{value_inside}
use Rattle.per_enc.proofs.Noting.{behaves_begun, written_noted}
use Rattle.per_enc.proofs.Turns.{behaves_unclosed, contents_opened_well, not_unclosed, one_untimely, unclosed_untimely}
use Rattle.per_enc.proofs.EncoderEncoder.close_contents.Goals as goal

pub returns-in_err-check_scope : goal.returns-in_err-check_scope
returns-in_err-check_scope g c =
    let p = err_from_is_err_and c.from_residual.result c.from_residual.ensures.1 in
    let j = c.args.self.now in
    let u = c.in_err-check_scope.ensures.err in
    rw (p.1, p.2) (record {
      law = λ x i s v h w. absurd (not_unclosed _ j u w.written.left (ap is_complete (value_inside i j s v h.inside w).1));
      untimely = λ x i h. unclosed_untimely _ i j (awaits 1) _ h.inside (contents_opened_well x i c.args.outside h).unfailed u;
      behaves = behaves_unclosed _ j _ u c.in_err-check_scope.ensures.fails c.in_err-check_scope.ensures.kept;
    })

pub returns : goal.returns
returns g c =
    let m = c.self.view_is ∙ c.in_ok-check_scope.ensures.stays in
    let begun = (rw (← m) at c.in_ok-check_scope.ensures.begun) in
    let complete = (rw (← m) at c.in_ok-check_scope.ensures.complete) in
    let n = c.close_unplaced-contents.new.self in
    let j = c.self.inside.writer in
    let y = c.put_open_pieces.new.self in
    let result = c.put_open_pieces.result in
    let outside = c.close_unplaced-contents.ensures.outside in
    let puts : Puts IsMemory (open_bits (variant_of j.codec) (view j 0)) (record j { pieces = c.args.outside.0.pieces; scope = c.args.outside.0.scope }) result y =
    subst (λ (z : WriterState). Puts IsMemory (open_bits (variant_of z.codec) (view j 0)) z result y) outside
    (subst (λ (p : Pieces). Puts IsMemory (open_bits (variant_of n.codec) (Some (placed_bits p.list 0))) n result y) c.close_unplaced-contents.ensures.taken c.put_open_pieces.ensures) in
    rw (← m) (record {
      law = λ x i s v h w. written_noted x (record { writer = y; set = c.args.outside.1 }) (Schema.containing s) v result
          (contents_closed (noting x).writer i.writer j y c.args.outside.0 s v result h.opened (value_inside i _ s v h.inside w).0 puts) h.waits;
      untimely = λ x i h. let o = contents_opened_well x i c.args.outside h in one_untimely i _ result h.inside o.presences o.additions complete;
      behaves = behaves_begun begun c.put_open_pieces.ensures.fails (c.put_open_pieces.ensures.kept ∙ ap (λ (z : WriterState). z.codec) outside);
    })
