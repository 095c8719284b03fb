use Rattle.std.proofs.Common.{refl, rules, ◌∙◌}
use Rattle.std.proofs.lemmas.Result.{err_from_is_err_and}
use Rattle.rasn_sets.specs.Components.{GivesItem}
use Rattle.rasn_sets.proofs.Loops.{after_done, after_fails_here, after_fails_on, after_on}
use Rattle.rasn_sets.proofs.steps.read_additions.Goals as goal

pub loop-field-init : goal.loop-field-init
loop-field-init g c = record { onward = λ t ys h. h; failing = λ e h. h; kept = λ k. refl }

pub returns-in_err-read_addition : goal.returns-in_err-read_addition
returns-in_err-read_addition g c =
    let p = err_from_is_err_and c.from_residual.result c.from_residual.ensures.1 in
    record {
      law = rw (p.1, p.2) (c.loop-field.invariant.failing _ (after_fails_here g.D.Decoder.rules (GivesItem g.F.Fn c.args.decode.now) c.args.fields.now c.loop-field.field-index c.loop-field-test.true (search rules) c.in_err-read_addition.ensures.law));
      kept = λ k. c.read_addition.ensures.kept k ∙ c.loop-field.invariant.kept k;
    }

pub loop-field-preserved : goal.loop-field-preserved
loop-field-preserved g c = record {
  onward = λ t ys h. c.loop-field.invariant.onward t ys (after_on g.D.Decoder.rules (GivesItem g.F.Fn c.args.decode.now) c.args.fields.now c.loop-field.field-index c.loop-field-test.true (search rules) c.in_ok-read_addition.ensures.law h);
  failing = λ e h. c.loop-field.invariant.failing e (after_fails_on g.D.Decoder.rules (GivesItem g.F.Fn c.args.decode.now) c.args.fields.now c.loop-field.field-index c.loop-field-test.true (search rules) c.in_ok-read_addition.ensures.law h);
  kept = λ k. c.read_addition.ensures.kept k ∙ c.loop-field.invariant.kept k;
}

pub returns : goal.returns
returns g c = record { law = c.loop-field.invariant.onward _ _ (after_done g.D.Decoder.rules (GivesItem g.F.Fn c.args.decode.now) c.args.fields.now c.loop-field.field-index c.args.first _ _ c.loop-field-test.false); kept = c.loop-field.invariant.kept }
