use Rattle.per_versions.proofs.Laws
use Rattle.per_versions.proofs.round_trips.what_was_decoded_is_decoded_again.Goals as goal
use Rattle.rasn_per.specs.Calls.{reading}
use Rattle.rasn_types.specs.Variants.{variant_of}

pub returns : goal.returns
returns g c = λ l strict again codec other x octets others answer d h e. Laws.answered again other (g.T.AsnType.schema g.T.AsnType.CONSTRAINTS) g.T.AsnType.value others answer _ e
    (Laws.read_again (reading strict (variant_of codec)) (reading again (variant_of other)) (g.T.AsnType.schema g.T.AsnType.CONSTRAINTS) (g.T.AsnType.levelled g.T.AsnType.CONSTRAINTS) l.lawful (g.T.AsnType.levels x) (g.T.AsnType.value x) octets others d.ok.are_read h)
