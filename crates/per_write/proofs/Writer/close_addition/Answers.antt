use Rattle.std.proofs.Common.{◌∙◌, ap}
use Rattle.per_write.specs.Additions.{OutsideAddition}
use Rattle.per_write.specs.WriterState.{WriterState}
use Rattle.per_write.proofs.RecordsClosed.{addition_closed}
use Rattle.per_write.proofs.Writer.close_addition.Goals as goal

pub returns : goal.returns
returns g c =
    addition_closed c.args.self.now _ c.give_addition.new.self c.args.outside c.outside.inside.additions c.in_ok-additions.additions c.give_addition.result c.requires
    (ap (λ (o : OutsideAddition). o.additions) c.outside.view_is) c.in_ok-additions.ensures.opens c.in_ok-additions.ensures.others
    (ap (λ (s : WriterState). s.pieces) (c.self.view_is ∙ c.in_ok-additions.ensures.same) ∙ ap (λ (o : OutsideAddition). o.pieces) c.outside.view_is)
    (ap (λ (s : WriterState). s.failed) (c.self.view_is ∙ c.in_ok-additions.ensures.same)) (ap (λ (s : WriterState). s.codec) (c.self.view_is ∙ c.in_ok-additions.ensures.same))
    (ap (λ (o : OutsideAddition). o.presences) c.outside.view_is) (ap (λ (s : WriterState). s.scope.is_open) (c.self.view_is ∙ c.in_ok-additions.ensures.same)) c.give_addition.ensures
