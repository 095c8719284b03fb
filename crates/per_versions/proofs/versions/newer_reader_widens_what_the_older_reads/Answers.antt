use Rattle.per_laws.proofs.Readers.{known_is_read}
use Rattle.per_versions.proofs.Laws
use Rattle.per_versions.proofs.versions.newer_reader_widens_what_the_older_reads.Goals as goal
use Rattle.rasn_per.specs.Calls.{reading}
use Rattle.rasn_types.specs.Variants.{variant_of}

pub returns-clause-answers : goal.returns-clause-answers
returns-clause-answers g c = λ k strict codec octets x answer h d. Laws.answered strict codec (g.New.AsnType.schema g.New.AsnType.CONSTRAINTS) g.New.AsnType.value octets answer _ d
    (Laws.newer_widens (reading strict (variant_of codec)) (g.New.AsnType.schema g.New.AsnType.CONSTRAINTS) (g.Old.AsnType.schema g.Old.AsnType.CONSTRAINTS) (g.New.AsnType.levelled g.New.AsnType.CONSTRAINTS) (g.Old.AsnType.levelled g.Old.AsnType.CONSTRAINTS) k (g.Old.AsnType.value x) octets h)

pub returns-clause-known : goal.returns-clause-known
returns-clause-known g c = λ k strict codec octets x y h i.
    Laws.stays_known (reading strict (variant_of codec)) (g.New.AsnType.schema g.New.AsnType.CONSTRAINTS) (g.Old.AsnType.schema g.Old.AsnType.CONSTRAINTS) (g.New.AsnType.levelled g.New.AsnType.CONSTRAINTS) (g.Old.AsnType.levelled g.Old.AsnType.CONSTRAINTS) k (g.Old.AsnType.value x) (g.New.AsnType.value y) octets h i

pub returns-clause-projects_back : goal.returns-clause-projects_back
returns-clause-projects_back g c = λ k strict codec octets x y h d.
    let a = reading strict (variant_of codec) in
    (Laws.older_projects a (g.New.AsnType.schema g.New.AsnType.CONSTRAINTS) (g.Old.AsnType.schema g.Old.AsnType.CONSTRAINTS) (g.New.AsnType.levelled g.New.AsnType.CONSTRAINTS) (g.Old.AsnType.levelled g.Old.AsnType.CONSTRAINTS) k (g.New.AsnType.value y) octets d.ok.are_read (g.Old.AsnType.value x)).0
    (known_is_read a ((g.Old.AsnType.schema g.Old.AsnType.CONSTRAINTS) 128) (g.Old.AsnType.value x) octets h)
