use Rattle.per_versions.proofs.Laws
use Rattle.per_versions.proofs.versions.encoded_octets_are_known.Goals as goal
use Rattle.rasn_per.specs.Calls.{reading}
use Rattle.rasn_types.specs.Variants.{variant_of}

pub returns : goal.returns
returns g c = λ strict codec x y octets h d.
    Laws.written_known (reading strict (variant_of codec)) (g.T.AsnType.schema g.T.AsnType.CONSTRAINTS) (g.T.AsnType.levelled g.T.AsnType.CONSTRAINTS) (g.T.AsnType.levels x) (g.T.AsnType.value x) octets h (g.T.AsnType.value y) d.ok.are_read
