use Rattle.per_versions.proofs.Laws
use Rattle.per_versions.proofs.Relayed
use Rattle.per_versions.proofs.relays.older_reader_projects_what_is_passed_on.Goals as goal
use Rattle.rasn_per.specs.Calls.{reading}
use Rattle.rasn_types.specs.Variants.{variant_of}

pub returns : goal.returns
returns g c = λ l k strict again codec other x octets others answer d h e.
    Laws.answered again other (g.Old.AsnType.schema g.Old.AsnType.CONSTRAINTS) g.Old.AsnType.value others answer _ e
    (Relayed.older_relayed (reading strict (variant_of codec)) (reading again (variant_of other)) (g.New.AsnType.schema g.New.AsnType.CONSTRAINTS) (g.Old.AsnType.schema g.Old.AsnType.CONSTRAINTS) (g.New.AsnType.levelled g.New.AsnType.CONSTRAINTS) (g.Old.AsnType.levelled g.Old.AsnType.CONSTRAINTS) l.lawful k (g.New.AsnType.levels x) (g.New.AsnType.value x) octets others d.ok.are_read h)
