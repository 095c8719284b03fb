use Rattle.std.proofs.Common.{refl, rules, ◌∙◌}
use Rattle.std.proofs.lemmas.Result.{err_from_is_err_and}
use Rattle.rasn_sets.specs.Components.{GivesItem}
use Rattle.rasn_sets.specs.Turns.{given_none, kept_none, keeps}
use Rattle.rasn_sets.proofs.steps.read_item.Goals as goal

pub returns-in_err-item : goal.returns-in_err-item
returns-in_err-item g c =
    let gave : GivesItem g.F.Fn c.args.decode.now c.args.decoder.now c.args.index c.args.tag c.decode.result c.decode.new.arg2 =
    record { shown = _; shows = refl; left = _; met = c.decode.ensures; leaves = refl } in
    let p = err_from_is_err_and c.from_residual.result c.from_residual.ensures.1 in
    record { law = rw (p.1, p.2) (given_none _ (rw c.in_err-item.was at gave)); kept = λ k. k.stays _ _ _ _ _ gave }

pub returns-then-is_err : goal.returns-then-is_err
returns-then-is_err g c =
    let gave : GivesItem g.F.Fn c.args.decode.now c.args.decoder.now c.args.index c.args.tag c.decode.result c.decode.new.arg2 =
    record { shown = _; shows = refl; left = _; met = c.decode.ensures; leaves = refl } in
    record {
      law = kept_none _ _ (rw c.in_ok-item.was at gave) c.out_of_memory.ensures.memory;
      kept = λ k. c.out_of_memory.ensures.kept ∙ k.stays _ _ _ _ _ gave;
    }

pub returns : goal.returns
returns g c =
    let gave : GivesItem g.F.Fn c.args.decode.now c.args.decoder.now c.args.index c.args.tag c.decode.result c.decode.new.arg2 =
    record { shown = _; shows = refl; left = _; met = c.decode.ensures; leaves = refl } in
    record {
      law = keeps c.in_ok-item.item (rw c.in_ok-item.was at gave) (search rules);
      kept = λ k. k.stays _ _ _ _ _ gave;
    }
