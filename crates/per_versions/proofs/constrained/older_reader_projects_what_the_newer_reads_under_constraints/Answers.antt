use Rattle.per_versions.proofs.Laws
use Rattle.per_versions.proofs.constrained.older_reader_projects_what_the_newer_reads_under_constraints.Goals as goal
use Rattle.rasn_per.specs.Calls.{reading}
use Rattle.rasn_types.specs.Variants.{variant_of}

pub returns : goal.returns
returns g c = λ q r k strict codec octets x answer e d. Laws.answered strict codec (g.Old.AsnType.schema r) g.Old.AsnType.value octets answer _ d
    (Laws.older_projects (reading strict (variant_of codec)) (g.New.AsnType.schema q) (g.Old.AsnType.schema r) (g.New.AsnType.levelled q) (g.Old.AsnType.levelled r) k (g.New.AsnType.value x) octets e.ok.are_read)
