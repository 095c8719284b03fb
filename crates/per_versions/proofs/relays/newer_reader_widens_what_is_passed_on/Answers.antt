use Rattle.per_versions.proofs.Laws
use Rattle.per_versions.proofs.Relayed
use Rattle.per_versions.proofs.relays.newer_reader_widens_what_is_passed_on.Goals as goal
use Rattle.rasn_per.specs.Calls.{reading}
use Rattle.rasn_types.specs.Variants.{variant_of}

pub returns : goal.returns
returns g c = λ l k strict again codec other x octets others answer d h e.
    Laws.answered again other (g.New.AsnType.schema g.New.AsnType.CONSTRAINTS) g.New.AsnType.value others answer _ e
    (Relayed.newer_relayed (reading strict (variant_of codec)) (reading again (variant_of other)) (g.New.AsnType.schema g.New.AsnType.CONSTRAINTS) (g.Old.AsnType.schema g.Old.AsnType.CONSTRAINTS) (g.New.AsnType.levelled g.New.AsnType.CONSTRAINTS) (g.Old.AsnType.levelled g.Old.AsnType.CONSTRAINTS) l.lawful k (g.Old.AsnType.levels x) (g.Old.AsnType.value x) octets others d.ok.are_read h)
