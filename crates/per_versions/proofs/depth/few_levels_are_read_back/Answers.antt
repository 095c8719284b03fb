use Rattle.per_versions.proofs.Laws
use Rattle.per_versions.proofs.depth.few_levels_are_read_back.Goals as goal
use Rattle.rasn_per.specs.Calls.{reading}
use Rattle.rasn_types.specs.Variants.{variant_of}

pub returns : goal.returns
returns g c = λ strict codec x octets answer h l d. Laws.answered strict codec (g.T.AsnType.schema g.T.AsnType.CONSTRAINTS) g.T.AsnType.value octets answer _ d
    (Laws.few_read_back (reading strict (variant_of codec)) (g.T.AsnType.schema g.T.AsnType.CONSTRAINTS) (g.T.AsnType.levelled g.T.AsnType.CONSTRAINTS) (g.T.AsnType.levels x) (g.T.AsnType.value x) octets h l)
