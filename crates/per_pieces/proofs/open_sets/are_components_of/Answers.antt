use Rattle.std.proofs.Common.{◌∙◌, arith, false, map, sym, true}
use Rattle.std.proofs.lemmas.List.{length-map}
use Rattle.rasn_schema.specs.Fields.{shape_of}
use Rattle.per_pieces.proofs.Closing.{not_as_many, told}
use Rattle.per_pieces.proofs.open_sets.are_components_of.Goals as goal

pub returns-then-fields-components : goal.returns-then-fields-components
returns-then-fields-components g c =
    sym (not_as_many (map shape_of c.args.fields.now) c.args.components.now (λ e. c.if-fields-components.true (sym (length-map c.args.fields.now shape_of) ∙ e)))

pub returns-then-not-is_component_of : goal.returns-then-not-is_component_of
returns-then-not-is_component_of g c =
    sym (told c.args.fields.now c.args.components.now c.loop-index.index _ c.index-components-index.result c.is_component_of.result false c.loop-index-test.true
    (omega (arith, c.loop-index-test.true, c.if-fields-components.false)) c.index-components-index.is c.is_component_of.ensures c.if-not-is_component_of.true c.loop-index.invariant)

pub loop-index-preserved : goal.loop-index-preserved
loop-index-preserved g c =
    told c.args.fields.now c.args.components.now c.loop-index.index _ c.index-components-index.result c.is_component_of.result true c.loop-index-test.true
    (omega (arith, c.loop-index-test.true, c.if-fields-components.false)) c.index-components-index.is c.is_component_of.ensures c.if-not-is_component_of.false c.loop-index.invariant
