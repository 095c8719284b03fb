use Rattle.per_versions.proofs.ButForNames
use Rattle.per_versions.proofs.Laws
use Rattle.per_versions.proofs.named_bits.newer_reader_widens_whichever_bits_have_names.Goals as goal
use Rattle.rasn_per.specs.Calls.{reading}
use Rattle.rasn_types.specs.Variants.{variant_of}

pub returns : goal.returns
returns g c = λ k strict codec octets x answer h d. Laws.answered strict codec (g.New.AsnType.schema g.New.AsnType.CONSTRAINTS) g.New.AsnType.value octets answer _ d
    (ButForNames.newer_widens (reading strict (variant_of codec)) (g.New.AsnType.schema g.New.AsnType.CONSTRAINTS) (g.Old.AsnType.schema g.Old.AsnType.CONSTRAINTS) (g.New.AsnType.levelled g.New.AsnType.CONSTRAINTS) (g.Old.AsnType.levelled g.Old.AsnType.CONSTRAINTS) k (g.Old.AsnType.value x) octets h)
