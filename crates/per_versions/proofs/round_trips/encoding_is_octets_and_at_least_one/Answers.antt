use Rattle.per_versions.proofs.Laws
use Rattle.per_versions.proofs.round_trips.encoding_is_octets_and_at_least_one.Goals as goal
use Rattle.rasn_types.specs.Variants.{variant_of}

pub returns : goal.returns
returns g c = λ codec x. Laws.whole_octets (variant_of codec) (g.T.AsnType.schema g.T.AsnType.CONSTRAINTS) (g.T.AsnType.levelled g.T.AsnType.CONSTRAINTS) (g.T.AsnType.levels x) (g.T.AsnType.value x)
