use Rattle.per_versions.proofs.Laws
use Rattle.per_versions.proofs.depth.few_levels_are_widened.Goals as goal
use Rattle.rasn_per.specs.Calls.{reading}
use Rattle.rasn_types.specs.Variants.{variant_of}

pub returns : goal.returns
returns g c = λ k strict codec x octets answer h l d. Laws.answered strict codec (g.New.AsnType.schema g.New.AsnType.CONSTRAINTS) g.New.AsnType.value octets answer _ d
    (Laws.few_widened (reading strict (variant_of codec)) (g.New.AsnType.schema g.New.AsnType.CONSTRAINTS) (g.Old.AsnType.schema g.Old.AsnType.CONSTRAINTS) (g.New.AsnType.levelled g.New.AsnType.CONSTRAINTS) (g.Old.AsnType.levelled g.Old.AsnType.CONSTRAINTS) k (g.Old.AsnType.levels x) (g.Old.AsnType.value x) octets h l)
