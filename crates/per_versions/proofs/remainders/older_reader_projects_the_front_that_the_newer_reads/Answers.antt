use Rattle.per_versions.proofs.Fronts
use Rattle.per_versions.proofs.Laws
use Rattle.per_versions.proofs.remainders.older_reader_projects_the_front_that_the_newer_reads.Goals as goal
use Rattle.rasn_per.specs.Calls.{basically}
use Rattle.rasn_types.specs.Variants.{variant_of}

pub returns : goal.returns
returns g c = λ k codec octets x answer d e.
    let a = basically (variant_of codec) in
    let r = d.ok.are_read in
    Fronts.front_answered codec (g.Old.AsnType.schema g.Old.AsnType.CONSTRAINTS) g.Old.AsnType.value octets r.0 x.1.now answer _ e r.1
    (Fronts.projected_front a (g.New.AsnType.schema g.New.AsnType.CONSTRAINTS) (g.Old.AsnType.schema g.Old.AsnType.CONSTRAINTS) (g.New.AsnType.levelled g.New.AsnType.CONSTRAINTS) (g.Old.AsnType.levelled g.Old.AsnType.CONSTRAINTS) k (g.New.AsnType.value x.0) r.0 x.1.now r.2)
    (Laws.older_projects a (g.New.AsnType.schema g.New.AsnType.CONSTRAINTS) (g.Old.AsnType.schema g.Old.AsnType.CONSTRAINTS) (g.New.AsnType.levelled g.New.AsnType.CONSTRAINTS) (g.Old.AsnType.levelled g.Old.AsnType.CONSTRAINTS) k (g.New.AsnType.value x.0) r.0 r.2)
