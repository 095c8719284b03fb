use Rattle.std.proofs.Common.{sym, ◌∙◌}
use borrow.Author.Tests.{eqb-true, eqb-false}
use Rattle.rasn_types.proofs.Walking.{pushed, pushed_two}
use Rattle.rasn_types.proofs.ber.push_arcs.Goals as goal

pub returns-then-not-is_empty-clause-read : goal.returns-then-not-is_empty-clause-read
returns-then-not-is_empty-clause-read c = pushed _ _ _ c.requires.lawful c.requires.below (λ e. eqb-false _ 0 (sym c.if-not-is_empty.ensures) (c.args.arcs.now.ok.0 ∙ e)) c.in_ok-push.ensures.items

pub returns-clause-read : goal.returns-clause-read
returns-clause-read c = pushed_two c.args.arcs.now.items c.push-2.new.self.items _ c.min-first.result _ (sym c.args.arcs.now.ok.0 ∙ eqb-true _ 0 (sym c.if-not-is_empty.ensures)) c.requires.below c.min-first.ensures c.in_ok-push-2.ensures.items c.in_ok-push-3.ensures.items
