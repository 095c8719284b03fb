use Rattle.std.proofs.Common.{◌≡◌, ◌∙◌, ℕ, ap, arith, length, replicate}
use Rattle.per_pieces.specs.Pieces.{unplaced}
use Rattle.per_pieces.proofs.open_sets.spare_pieces.Goals as goal

pub returns : goal.returns
returns g c =
    let all : length c.loop-spare.spare.items ≡ c.args.count = omega (arith, c.loop-spare-test.false, c.loop-spare.invariant.within) in
    c.loop-spare.invariant.none ∙ ap (λ (n : ℕ). replicate n unplaced) all
