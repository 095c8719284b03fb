use Rattle.std.proofs.Common.{◌∙◌, ℕ, ap, sym, false, replicate}
use Rattle.per_pieces.specs.Pieces.{with_bits}
use Rattle.per_pieces.proofs.Zeros.{with_none}
use Rattle.per_pieces.proofs.Pieces.push_zeros.Goals as goal

pub returns-then-count-eq0 : goal.returns-then-count-eq0
returns-then-count-eq0 g c = with_none c.args.self.now ∙ ap (λ (n : ℕ). with_bits c.args.self.now (replicate n false)) (sym c.if-count-eq0.true)
