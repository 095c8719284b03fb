use Rattle.per_versions.proofs.Laws
use Rattle.per_versions.proofs.constrained.oldest_reader_answers_the_same_under_constraints.Goals as goal
use Rattle.rasn_per.specs.Calls.{reading}
use Rattle.rasn_types.specs.Variants.{variant_of}

pub returns : goal.returns
returns g c = λ q m r k l strict codec octets x y answer d e f. (
  Laws.answered strict codec (g.Oldest.AsnType.schema r) g.Oldest.AsnType.value octets answer _ f
      (Laws.older_projects (reading strict (variant_of codec)) (g.Newest.AsnType.schema q) (g.Oldest.AsnType.schema r) (g.Newest.AsnType.levelled q) (g.Oldest.AsnType.levelled r) (Laws.transitive (g.Newest.AsnType.schema q) (g.Middle.AsnType.schema m) (g.Oldest.AsnType.schema r) k l) (g.Newest.AsnType.value x) octets d.ok.are_read),
  Laws.answered strict codec (g.Oldest.AsnType.schema r) g.Oldest.AsnType.value octets answer _ f
      (Laws.older_projects (reading strict (variant_of codec)) (g.Middle.AsnType.schema m) (g.Oldest.AsnType.schema r) (g.Middle.AsnType.levelled m) (g.Oldest.AsnType.levelled r) l (g.Middle.AsnType.value y) octets e.ok.are_read),
)
