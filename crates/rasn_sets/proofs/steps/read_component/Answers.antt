use Rattle.std.proofs.Common.{refl, rules, ◌∙◌}
use Rattle.std.proofs.lemmas.Result.{err_from_is_err_and}
use Rattle.rasn_sets.specs.Components.{GivesItem}
use Rattle.rasn_sets.specs.Turns.{field_left_out}
use Rattle.rasn_sets.proofs.Loops.{bit_fails, field_is_required, field_is_there}
use Rattle.rasn_sets.proofs.steps.read_component.Goals as goal

pub returns-then-eq : goal.returns-then-eq
returns-then-eq g c = record { law = field_is_required g.D.Decoder.rules (GivesItem g.F.Fn c.args.decode.now) _ _ _ _ _ _ (search rules) c.read_item.ensures.law; kept = c.read_item.ensures.kept }

pub returns-in_err-next_presence : goal.returns-in_err-next_presence
returns-in_err-next_presence g c =
    let p = err_from_is_err_and c.from_residual.result c.from_residual.ensures.1 in
    record { law = rw (p.1, p.2) (bit_fails g.D.Decoder.rules (GivesItem g.F.Fn c.args.decode.now) _ _ _ (search rules) c.in_err-next_presence.ensures.law); kept = λ k. c.next_presence.ensures.behaves.kept }

pub returns-then-not-branch : goal.returns-then-not-branch
returns-then-not-branch g c = record {
  law = field_left_out (search rules) (rw c.if-not-branch.true at c.in_ok-next_presence.ensures.law) refl;
  kept = λ k. c.next_presence.ensures.behaves.kept;
}

pub returns : goal.returns
returns g c = record {
  law = field_is_there g.D.Decoder.rules (GivesItem g.F.Fn c.args.decode.now) _ _ _ _ _ _ _ (search rules) (rw c.if-not-branch.false at c.in_ok-next_presence.ensures.law) c.read_item-2.ensures.law;
  kept = λ k. c.read_item-2.ensures.kept k ∙ c.next_presence.ensures.behaves.kept;
}
