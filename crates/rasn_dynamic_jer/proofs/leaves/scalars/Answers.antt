use Rattle.std.proofs.Common.{refl, sym, ap, ◌∙◌, inr, true, ◌++◌, string_bytes}
use Rattle.std.specs.Char.{encode_utf8}
use Rattle.std.specs.Str.{all_scalars}
use Rattle.rasn_jer.proofs.Spelled.{spelled_within}
use Rattle.rasn_dynamic_jer.proofs.Tokens.{not_scalars, out_of_range, scalars_more}
use Rattle.rasn_dynamic_jer.proofs.leaves.scalars.Goals as goal

pub returns-in-None-clause-err : goal.returns-in-None-clause-err
returns-in-None-clause-err c = inr (refl, ap all_scalars (sym c.as_units-unit-items.ensures.characters) ∙ not_scalars _ c.loop-unit.unit-index c.from.result c.loop-unit-test.true c.from.ensures (out_of_range _ c.in-None.ensures.cases))

pub loop-unit-preserved : goal.loop-unit-preserved
loop-unit-preserved c = record {
  spelled = spelled_within _ _ _ c.loop-unit.unit-index c.from.result c.loop-unit.invariant.spelled c.loop-unit-test.true c.from.ensures
      (c.in_ok-push-in-Some.ensures.bytes ∙ ap (λ x. string_bytes c.loop-unit.text ++ encode_utf8 x) c.in-Some.ensures.value.1);
  scalars = scalars_more _ c.loop-unit.unit-index c.from.result c.loop-unit-test.true c.from.ensures c.in-Some.ensures.value.0 c.loop-unit.invariant.scalars;
}
