-- Whole numbers by how far they are above a lower bound, as they are written.
use Rattle.std.proofs.Common.{◌≡◌, sym, ap, ◌∙◌, ℕ, ◌+◌, Bool, Some, None, ℤ, FitsSigned}
use Rattle.std.specs.Int.{w128}
use Rattle.rasn_types.specs.Bits.{natural_bits}
use Rattle.rasn_types.specs.Variants.{Variant}
use Rattle.rasn_types.proofs.Reading.{fits-is_i128}
use Rattle.rasn_constraints.specs.Bounds.{above}
use Rattle.per_core.specs.Counts.{constrained_whole, counted_octets, number_under}
use Rattle.per_core.specs.Writers.{written_if}
use Rattle.per_pieces.specs.Pieces.{Appends, Pieces}
use Rattle.per_pieces.proofs.Placed.{appends_same}

-- X.691 13.2.2: both bounds
pub appends_between : (a : Variant) (x y : Pieces) (l u v : ℤ) (m o : ℕ) → m ≡ above l u → o ≡ above l v → FitsSigned w128 v →
    Appends x (constrained_whole a (m + 1) o) y → Appends x (number_under a (Some l) (Some u) v) y
unfolding number_under
appends_between a x y l u v m o e d f h =
    appends_same x y (constrained_whole a (m + 1) o) (number_under a (Some l) (Some u) v)
    (λ p. ap (λ (k : ℕ). constrained_whole a (k + 1) o p) e ∙ ap (λ (k : ℕ). constrained_whole a (above l u + 1) k p) d ∙ ap (λ (b : Bool). written_if b (constrained_whole a (above l u + 1) (above l v)) p) (sym (fits-is_i128 v f))) h

-- X.691 13.2.3: a lower bound alone
pub appends_from : (a : Variant) (x y : Pieces) (l v : ℤ) (o : ℕ) → o ≡ above l v → FitsSigned w128 v →
    Appends x (counted_octets a (natural_bits o)) y → Appends x (number_under a (Some l) None v) y
unfolding number_under
appends_from a x y l v o d f h =
    appends_same x y (counted_octets a (natural_bits o)) (number_under a (Some l) None v)
    (λ p. ap (λ (k : ℕ). counted_octets a (natural_bits k) p) d ∙ ap (λ (b : Bool). written_if b (counted_octets a (natural_bits (above l v))) p) (sym (fits-is_i128 v f))) h
