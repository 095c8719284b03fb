use Rattle.per_versions.proofs.Laws
use Rattle.per_versions.proofs.round_trips.what_was_decoded_is_encoded_canonically.Goals as goal
use Rattle.rasn_per.specs.Calls.{reading}
use Rattle.rasn_types.specs.Variants.{variant_of}

pub returns-clause-canonical : goal.returns-clause-canonical
returns-clause-canonical g c = λ strict codec other x octets others d h.
    Laws.written_canonically (variant_of other) (g.T.AsnType.schema g.T.AsnType.CONSTRAINTS) (g.T.AsnType.levelled g.T.AsnType.CONSTRAINTS) (g.T.AsnType.levels x) (g.T.AsnType.value x) others h

pub returns-clause-settled : goal.returns-clause-settled
returns-clause-settled g c = λ strict again codec other x y octets others last d h e i.
    let r = (Laws.own_reads (reading again (variant_of other)) (g.T.AsnType.schema g.T.AsnType.CONSTRAINTS) (g.T.AsnType.levelled g.T.AsnType.CONSTRAINTS) (g.T.AsnType.levels x) (g.T.AsnType.value x) others h (g.T.AsnType.value y)).0 e.ok.are_read in
    Laws.again (variant_of other) (g.T.AsnType.schema g.T.AsnType.CONSTRAINTS) (g.T.AsnType.levelled g.T.AsnType.CONSTRAINTS) (g.T.AsnType.levels x) (g.T.AsnType.levels y) (g.T.AsnType.value x) (g.T.AsnType.value y) others h r last i
