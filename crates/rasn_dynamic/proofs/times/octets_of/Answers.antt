use Rattle.std.proofs.Common.{◌≡◌, ◌∙◌, ap, sym, ◌++◌, ◌∷◌, [], get_or, arith}
use Rattle.std.proofs.lemmas.List.{length-set, take_more, take_more_set}
use Rattle.rasn_types.specs.Contents.{is_time}
use Rattle.rasn_dynamic.proofs.TimeTexts.{no_octet, too_many}
use Rattle.rasn_dynamic.proofs.times.octets_of.Goals as goal

pub returns-then-units-gt-MOST-clause-none : goal.returns-then-units-gt-MOST-clause-none
returns-then-units-gt-MOST-clause-none c = λ kind. ap (is_time kind) (sym c.as_units-units.ensures.characters) ∙ too_many kind _ c.if-units-gt-MOST.true

pub returns-then-unit-gt255-clause-none : goal.returns-then-unit-gt255-clause-none
returns-then-unit-gt255-clause-none c = λ kind. ap (is_time kind) (sym c.as_units-units.ensures.characters) ∙ no_octet kind _ c.loop-index.index c.loop-index-test.true c.if-unit-gt255.true

pub loop-index-preserved : goal.loop-index-preserved
loop-index-preserved c =
    let count = c.loop-index.invariant.count in let few = c.if-units-gt-MOST.false in let inside = c.loop-index-test.true in
    record {
      filled = take_more_set c.loop-index.octets c.loop-index.index _ (omega (arith, count, few, inside)) ∙ ap (λ os. os ++ get_or c.as_units-units.result.now c.loop-index.index 0 ∷ []) c.loop-index.invariant.filled
          ∙ sym (take_more c.as_units-units.result.now c.loop-index.index 0 inside);
      count = length-set c.loop-index.octets c.loop-index.index _ ∙ count;
    }
