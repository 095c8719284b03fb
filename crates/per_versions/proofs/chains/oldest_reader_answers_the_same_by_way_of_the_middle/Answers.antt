use Rattle.per_versions.proofs.Laws
use Rattle.per_versions.proofs.chains.oldest_reader_answers_the_same_by_way_of_the_middle.Goals as goal
use Rattle.rasn_per.specs.Calls.{reading}
use Rattle.rasn_types.specs.Variants.{variant_of}

pub returns : goal.returns
returns g c = λ k l strict codec octets x y answer d e f. (
  Laws.answered strict codec (g.Oldest.AsnType.schema g.Oldest.AsnType.CONSTRAINTS) g.Oldest.AsnType.value octets answer _ f
      (Laws.older_projects (reading strict (variant_of codec)) (g.Newest.AsnType.schema g.Newest.AsnType.CONSTRAINTS) (g.Oldest.AsnType.schema g.Oldest.AsnType.CONSTRAINTS) (g.Newest.AsnType.levelled g.Newest.AsnType.CONSTRAINTS) (g.Oldest.AsnType.levelled g.Oldest.AsnType.CONSTRAINTS) (Laws.transitive (g.Newest.AsnType.schema g.Newest.AsnType.CONSTRAINTS) (g.Middle.AsnType.schema g.Middle.AsnType.CONSTRAINTS) (g.Oldest.AsnType.schema g.Oldest.AsnType.CONSTRAINTS) k l) (g.Newest.AsnType.value x) octets d.ok.are_read),
  Laws.answered strict codec (g.Oldest.AsnType.schema g.Oldest.AsnType.CONSTRAINTS) g.Oldest.AsnType.value octets answer _ f
      (Laws.older_projects (reading strict (variant_of codec)) (g.Middle.AsnType.schema g.Middle.AsnType.CONSTRAINTS) (g.Oldest.AsnType.schema g.Oldest.AsnType.CONSTRAINTS) (g.Middle.AsnType.levelled g.Middle.AsnType.CONSTRAINTS) (g.Oldest.AsnType.levelled g.Oldest.AsnType.CONSTRAINTS) l (g.Middle.AsnType.value y) octets e.ok.are_read),
)
