use Rattle.std.proofs.Common.{arith}
use Rattle.std.proofs.lemmas.List.{length-map}
use Rattle.per_pieces.specs.Pieces.{writer_of}
use Rattle.per_pieces.specs.OpenSets.{value_writers}
use Rattle.per_pieces.proofs.Ordering.{nothing_past}
use Rattle.per_pieces.proofs.open_sets.push_value.Goals as goal

pub returns-then-index-components : goal.returns-then-index-components
returns-then-index-components g c =
    nothing_past c.args.pieces.now (value_writers c.args.components.now) c.args.index (omega (arith, c.if-index-components.true, length-map c.args.components.now (λ k. writer_of k.value.list)))
