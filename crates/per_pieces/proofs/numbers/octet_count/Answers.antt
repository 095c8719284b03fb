use Rattle.std.proofs.Common.{ap, ◌∙◌, ℕ, max}
use Rattle.per_pieces.proofs.Bounded.{octets_by_width}
use Rattle.per_pieces.proofs.numbers.octet_count.Goals as goal

pub returns-clause-count : goal.returns-clause-count
returns-clause-count c =
    octets_by_width c.args.number c.width_to.result c.max.result c.width_to.ensures.width (c.max.ensures ∙ ap (λ (k : ℕ). max k 1) c.div_ceil.ensures)
