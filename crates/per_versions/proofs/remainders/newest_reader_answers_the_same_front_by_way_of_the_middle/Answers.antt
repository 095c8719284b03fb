use Rattle.per_core.specs.Basic.{front}
use Rattle.per_versions.proofs.Fronts
use Rattle.per_versions.proofs.Laws
use Rattle.per_versions.proofs.remainders.newest_reader_answers_the_same_front_by_way_of_the_middle.Goals as goal
use Rattle.rasn_per.specs.Calls.{basically}
use Rattle.rasn_types.specs.Variants.{variant_of}
use Rattle.std.proofs.Common.{subst}

pub returns : goal.returns
returns g c = λ k l codec octets rest x y answer h e f.
    let a = basically (variant_of codec) in
    let v = g.Oldest.AsnType.value x in
    let w = g.Middle.AsnType.value y.0 in
    let m = Laws.transitive (g.Newest.AsnType.schema g.Newest.AsnType.CONSTRAINTS) (g.Middle.AsnType.schema g.Middle.AsnType.CONSTRAINTS) (g.Oldest.AsnType.schema g.Oldest.AsnType.CONSTRAINTS) k l in
    let r = ((Fronts.widened_front a (g.Middle.AsnType.schema g.Middle.AsnType.CONSTRAINTS) (g.Oldest.AsnType.schema g.Oldest.AsnType.CONSTRAINTS) (g.Middle.AsnType.levelled g.Middle.AsnType.CONSTRAINTS) (g.Oldest.AsnType.levelled g.Oldest.AsnType.CONSTRAINTS) l v h.0 rest h.2) w y.1.now).0 (subst (λ z. front a ((g.Middle.AsnType.schema g.Middle.AsnType.CONSTRAINTS) 128) w z y.1.now) h.1 e.ok.are_read) in
    let i = (Laws.newer_widens a (g.Middle.AsnType.schema g.Middle.AsnType.CONSTRAINTS) (g.Oldest.AsnType.schema g.Oldest.AsnType.CONSTRAINTS) (g.Middle.AsnType.levelled g.Middle.AsnType.CONSTRAINTS) (g.Oldest.AsnType.levelled g.Oldest.AsnType.CONSTRAINTS) l v h.0 h.2 w).0 r.0 in
    let j = Laws.stays_known a (g.Middle.AsnType.schema g.Middle.AsnType.CONSTRAINTS) (g.Oldest.AsnType.schema g.Oldest.AsnType.CONSTRAINTS) (g.Middle.AsnType.levelled g.Middle.AsnType.CONSTRAINTS) (g.Oldest.AsnType.levelled g.Oldest.AsnType.CONSTRAINTS) l v w h.0 h.2 i in (
      Fronts.front_answered codec (g.Newest.AsnType.schema g.Newest.AsnType.CONSTRAINTS) g.Newest.AsnType.value octets h.0 rest answer _ f h.1
          (Fronts.widened_front a (g.Newest.AsnType.schema g.Newest.AsnType.CONSTRAINTS) (g.Oldest.AsnType.schema g.Oldest.AsnType.CONSTRAINTS) (g.Newest.AsnType.levelled g.Newest.AsnType.CONSTRAINTS) (g.Oldest.AsnType.levelled g.Oldest.AsnType.CONSTRAINTS) m v h.0 rest h.2)
          (Laws.newer_widens a (g.Newest.AsnType.schema g.Newest.AsnType.CONSTRAINTS) (g.Oldest.AsnType.schema g.Oldest.AsnType.CONSTRAINTS) (g.Newest.AsnType.levelled g.Newest.AsnType.CONSTRAINTS) (g.Oldest.AsnType.levelled g.Oldest.AsnType.CONSTRAINTS) m v h.0 h.2),
      Fronts.front_answered codec (g.Newest.AsnType.schema g.Newest.AsnType.CONSTRAINTS) g.Newest.AsnType.value octets h.0 rest answer _ f h.1
          (Fronts.widened_front a (g.Newest.AsnType.schema g.Newest.AsnType.CONSTRAINTS) (g.Middle.AsnType.schema g.Middle.AsnType.CONSTRAINTS) (g.Newest.AsnType.levelled g.Newest.AsnType.CONSTRAINTS) (g.Middle.AsnType.levelled g.Middle.AsnType.CONSTRAINTS) k w h.0 rest j)
          (Laws.newer_widens a (g.Newest.AsnType.schema g.Newest.AsnType.CONSTRAINTS) (g.Middle.AsnType.schema g.Middle.AsnType.CONSTRAINTS) (g.Newest.AsnType.levelled g.Newest.AsnType.CONSTRAINTS) (g.Middle.AsnType.levelled g.Middle.AsnType.CONSTRAINTS) k w h.0 j),
    )
