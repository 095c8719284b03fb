use Rattle.std.proofs.Common.{◌≡◌, ◌∙◌, Bool, true, ◌||◌, ap, sym, subst}
use Rattle.per_core.specs.Canon.{any_set}
use Rattle.per_pieces.specs.Pieces.{bits_of, placed_bits}
use Rattle.per_write.specs.Additions.{ClosesOrNot, OutsideAddition, is_group_there}
use Rattle.per_write.specs.WriterState.{WriterState}
use Rattle.per_write.proofs.RecordsClosed.{any_settled, group_absent}
use Rattle.per_write.proofs.Writer.close_group.Goals.{then-has_required-via-then-has_required, then-has_required-via-else-has_required+then-has_one}
use Rattle.per_write.proofs.Writer.close_group.Goals as goal

pub returns-then-has_required : goal.returns-then-has_required
returns-then-has_required g c =
    let contents = placed_bits c.args.self.now.pieces.list 0 in
    let there : is_group_there c.args.has_required contents ≡ true = elim c.then-has_required.branch [
      | then-has_required-via-then-has_required w ↦ ap (λ b. b || any_set contents) w.if-has_required.true
      | then-has_required-via-else-has_required+then-has_one w ↦ ap (λ b. b || any_set contents) w.if-has_required.false ∙ any_settled c.args.self.now.pieces.list 0
          ∙ ap (λ (s : WriterState). any_set (bits_of s.pieces.list)) (sym c.self.view_is) ∙ ap any_set (sym w.bits.ensures) ∙ sym w.has_one.ensures ∙ w.if-has_one.true
    ] in
    subst (λ (b : Bool). ClosesOrNot b c.args.outside c.args.self.now c.close_addition.result c.close_addition.new.self) (sym there)
    c.close_addition.ensures

pub returns : goal.returns
returns g c =
    group_absent c.args.self.now _ c.give_addition.new.self c.args.outside _ c.args.has_required c.give_addition.result
    (ap (λ b. b || any_set (placed_bits c.args.self.now.pieces.list 0)) c.if-has_required.false ∙ any_settled c.args.self.now.pieces.list 0 ∙ ap (λ (s : WriterState). any_set (bits_of s.pieces.list)) (sym c.self.view_is)
    ∙ ap any_set (sym c.bits.ensures) ∙ sym c.has_one.ensures ∙ c.if-has_one.false) c.requires
    (c.replace.ensures.after ∙ ap (λ (o : OutsideAddition). o.pieces) c.outside.view_is) (ap (λ (s : WriterState). s.failed) c.self-2.view_is) (ap (λ (s : WriterState). s.codec) c.self-2.view_is)
    (ap (λ (o : OutsideAddition). o.presences) c.outside.view_is) (ap (λ (s : WriterState). s.scope.is_open) c.self-2.view_is) (ap (λ (o : OutsideAddition). o.additions) c.outside.view_is) c.give_addition.ensures
