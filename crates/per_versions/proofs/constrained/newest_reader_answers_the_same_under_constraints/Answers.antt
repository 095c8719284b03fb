use Rattle.per_versions.proofs.Laws
use Rattle.per_versions.proofs.constrained.newest_reader_answers_the_same_under_constraints.Goals as goal
use Rattle.rasn_per.specs.Calls.{reading}
use Rattle.rasn_types.specs.Variants.{variant_of}

pub returns : goal.returns
returns g c = λ q m r k l strict codec octets x y answer h e f.
    let s = reading strict (variant_of codec) in
    let i = (Laws.newer_widens s (g.Middle.AsnType.schema m) (g.Oldest.AsnType.schema r) (g.Middle.AsnType.levelled m) (g.Oldest.AsnType.levelled r) l (g.Oldest.AsnType.value x) octets h (g.Middle.AsnType.value y)).0 e.ok.are_read in
    let j = Laws.stays_known s (g.Middle.AsnType.schema m) (g.Oldest.AsnType.schema r) (g.Middle.AsnType.levelled m) (g.Oldest.AsnType.levelled r) l (g.Oldest.AsnType.value x) (g.Middle.AsnType.value y) octets h i in (
      Laws.answered strict codec (g.Newest.AsnType.schema q) g.Newest.AsnType.value octets answer _ f
          (Laws.newer_widens s (g.Newest.AsnType.schema q) (g.Oldest.AsnType.schema r) (g.Newest.AsnType.levelled q) (g.Oldest.AsnType.levelled r) (Laws.transitive (g.Newest.AsnType.schema q) (g.Middle.AsnType.schema m) (g.Oldest.AsnType.schema r) k l) (g.Oldest.AsnType.value x) octets h),
      Laws.answered strict codec (g.Newest.AsnType.schema q) g.Newest.AsnType.value octets answer _ f (Laws.newer_widens s (g.Newest.AsnType.schema q) (g.Middle.AsnType.schema m) (g.Newest.AsnType.levelled q) (g.Middle.AsnType.levelled m) k (g.Middle.AsnType.value y) octets j),
    )
