use Rattle.per_versions.proofs.ButForNames
use Rattle.per_versions.proofs.Laws
use Rattle.per_versions.proofs.named_bits.older_reader_projects_whichever_bits_have_names.Goals as goal
use Rattle.rasn_per.specs.Calls.{reading}
use Rattle.rasn_types.specs.Variants.{variant_of}

pub returns : goal.returns
returns g c = λ k strict codec octets x answer e d. Laws.answered strict codec (g.Old.AsnType.schema g.Old.AsnType.CONSTRAINTS) g.Old.AsnType.value octets answer _ d
    (ButForNames.older_projects (reading strict (variant_of codec)) (g.New.AsnType.schema g.New.AsnType.CONSTRAINTS) (g.Old.AsnType.schema g.Old.AsnType.CONSTRAINTS) (g.New.AsnType.levelled g.New.AsnType.CONSTRAINTS) (g.Old.AsnType.levelled g.Old.AsnType.CONSTRAINTS) k (g.New.AsnType.value x) octets e.ok.are_read)
