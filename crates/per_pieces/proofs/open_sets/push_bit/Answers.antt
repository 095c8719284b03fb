use Rattle.std.proofs.Common.{[], ◌∙◌, ap, sym, arith}
use Rattle.std.proofs.lemmas.List.{length-map}
use Rattle.per_core.specs.Writers.{just}
use Rattle.per_pieces.specs.OpenSets.{Component, bit_writer, bit_writers}
use Rattle.per_pieces.proofs.Placed.{appends_none}
use Rattle.per_pieces.proofs.Ordering.{nothing_past, put_at}
use Rattle.per_pieces.proofs.open_sets.push_bit.Goals as goal

pub returns-then-index-components : goal.returns-then-index-components
returns-then-index-components g c =
    nothing_past c.args.pieces.now (bit_writers c.args.components.now) c.args.index (omega (arith, c.if-index-components.true, length-map c.args.components.now (λ k. bit_writer k.bit)))

pub returns-in-None : goal.returns-in-None
returns-in-None g c =
    put_at (λ k. bit_writer k.bit) c.args.components.now c.args.index c.index-components-index.result (just []) c.index-components-index.is c.if-index-components.false
    (sym (ap (λ (k : Component). bit_writer k.bit) c.component.view_is) ∙ ap bit_writer c.in-None.is) (appends_none c.args.pieces.now)
