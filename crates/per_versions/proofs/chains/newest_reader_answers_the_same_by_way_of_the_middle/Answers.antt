use Rattle.per_versions.proofs.Laws
use Rattle.per_versions.proofs.chains.newest_reader_answers_the_same_by_way_of_the_middle.Goals as goal
use Rattle.rasn_per.specs.Calls.{reading}
use Rattle.rasn_types.specs.Variants.{variant_of}

pub returns : goal.returns
returns g c = λ k l strict codec octets x y answer h e f.
    let s = reading strict (variant_of codec) in
    let i = (Laws.newer_widens s (g.Middle.AsnType.schema g.Middle.AsnType.CONSTRAINTS) (g.Oldest.AsnType.schema g.Oldest.AsnType.CONSTRAINTS) (g.Middle.AsnType.levelled g.Middle.AsnType.CONSTRAINTS) (g.Oldest.AsnType.levelled g.Oldest.AsnType.CONSTRAINTS) l (g.Oldest.AsnType.value x) octets h (g.Middle.AsnType.value y)).0 e.ok.are_read in
    let j = Laws.stays_known s (g.Middle.AsnType.schema g.Middle.AsnType.CONSTRAINTS) (g.Oldest.AsnType.schema g.Oldest.AsnType.CONSTRAINTS) (g.Middle.AsnType.levelled g.Middle.AsnType.CONSTRAINTS) (g.Oldest.AsnType.levelled g.Oldest.AsnType.CONSTRAINTS) l (g.Oldest.AsnType.value x) (g.Middle.AsnType.value y) octets h i in (
      Laws.answered strict codec (g.Newest.AsnType.schema g.Newest.AsnType.CONSTRAINTS) g.Newest.AsnType.value octets answer _ f
          (Laws.newer_widens s (g.Newest.AsnType.schema g.Newest.AsnType.CONSTRAINTS) (g.Oldest.AsnType.schema g.Oldest.AsnType.CONSTRAINTS) (g.Newest.AsnType.levelled g.Newest.AsnType.CONSTRAINTS) (g.Oldest.AsnType.levelled g.Oldest.AsnType.CONSTRAINTS) (Laws.transitive (g.Newest.AsnType.schema g.Newest.AsnType.CONSTRAINTS) (g.Middle.AsnType.schema g.Middle.AsnType.CONSTRAINTS) (g.Oldest.AsnType.schema g.Oldest.AsnType.CONSTRAINTS) k l) (g.Oldest.AsnType.value x) octets h),
      Laws.answered strict codec (g.Newest.AsnType.schema g.Newest.AsnType.CONSTRAINTS) g.Newest.AsnType.value octets answer _ f (Laws.newer_widens s (g.Newest.AsnType.schema g.Newest.AsnType.CONSTRAINTS) (g.Middle.AsnType.schema g.Middle.AsnType.CONSTRAINTS) (g.Newest.AsnType.levelled g.Newest.AsnType.CONSTRAINTS) (g.Middle.AsnType.levelled g.Middle.AsnType.CONSTRAINTS) k (g.Middle.AsnType.value y) octets j),
    )
