use Rattle.per_versions.proofs.Laws
use Rattle.per_versions.proofs.round_trips.equal_octets_mean_equal_normal_forms.Goals as goal
use Rattle.rasn_types.specs.Variants.{variant_of}

pub returns : goal.returns
returns g c = λ codec x y. Laws.told_apart (variant_of codec) (g.T.AsnType.schema g.T.AsnType.CONSTRAINTS) (g.T.AsnType.levelled g.T.AsnType.CONSTRAINTS) (g.T.AsnType.levels x) (g.T.AsnType.levels y) (g.T.AsnType.value x) (g.T.AsnType.value y)
