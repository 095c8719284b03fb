use Rattle.per_versions.proofs.Fronts
use Rattle.per_versions.proofs.Laws
use Rattle.per_versions.proofs.remainders.oldest_reader_answers_the_same_front_by_way_of_the_middle.Goals as goal
use Rattle.rasn_per.specs.Calls.{basically}
use Rattle.rasn_types.specs.Variants.{variant_of}

pub returns : goal.returns
returns g c = λ k l codec octets x y answer d e f.
    let a = basically (variant_of codec) in
    let m = Laws.transitive (g.Newest.AsnType.schema g.Newest.AsnType.CONSTRAINTS) (g.Middle.AsnType.schema g.Middle.AsnType.CONSTRAINTS) (g.Oldest.AsnType.schema g.Oldest.AsnType.CONSTRAINTS) k l in
    let r = d.ok.are_read in
    let s = e.ok.are_read in (
      Fronts.front_answered codec (g.Oldest.AsnType.schema g.Oldest.AsnType.CONSTRAINTS) g.Oldest.AsnType.value octets r.0 x.1.now answer _ f r.1
          (Fronts.projected_front a (g.Newest.AsnType.schema g.Newest.AsnType.CONSTRAINTS) (g.Oldest.AsnType.schema g.Oldest.AsnType.CONSTRAINTS) (g.Newest.AsnType.levelled g.Newest.AsnType.CONSTRAINTS) (g.Oldest.AsnType.levelled g.Oldest.AsnType.CONSTRAINTS) m (g.Newest.AsnType.value x.0) r.0 x.1.now r.2)
          (Laws.older_projects a (g.Newest.AsnType.schema g.Newest.AsnType.CONSTRAINTS) (g.Oldest.AsnType.schema g.Oldest.AsnType.CONSTRAINTS) (g.Newest.AsnType.levelled g.Newest.AsnType.CONSTRAINTS) (g.Oldest.AsnType.levelled g.Oldest.AsnType.CONSTRAINTS) m (g.Newest.AsnType.value x.0) r.0 r.2),
      Fronts.front_answered codec (g.Oldest.AsnType.schema g.Oldest.AsnType.CONSTRAINTS) g.Oldest.AsnType.value octets s.0 y.1.now answer _ f s.1
          (Fronts.projected_front a (g.Middle.AsnType.schema g.Middle.AsnType.CONSTRAINTS) (g.Oldest.AsnType.schema g.Oldest.AsnType.CONSTRAINTS) (g.Middle.AsnType.levelled g.Middle.AsnType.CONSTRAINTS) (g.Oldest.AsnType.levelled g.Oldest.AsnType.CONSTRAINTS) l (g.Middle.AsnType.value y.0) s.0 y.1.now s.2)
          (Laws.older_projects a (g.Middle.AsnType.schema g.Middle.AsnType.CONSTRAINTS) (g.Oldest.AsnType.schema g.Oldest.AsnType.CONSTRAINTS) (g.Middle.AsnType.levelled g.Middle.AsnType.CONSTRAINTS) (g.Oldest.AsnType.levelled g.Oldest.AsnType.CONSTRAINTS) l (g.Middle.AsnType.value y.0) s.0 s.2),
    )
