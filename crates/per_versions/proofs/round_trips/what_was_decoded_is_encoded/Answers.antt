use Rattle.per_versions.proofs.Faulted
use Rattle.per_versions.proofs.round_trips.what_was_decoded_is_encoded.Goals as goal
use Rattle.rasn_per.specs.Calls.{reading}
use Rattle.rasn_types.specs.Variants.{variant_of}

pub returns-clause-one_fault : goal.returns-clause-one_fault
returns-clause-one_fault g c = λ l strict codec other x octets answer d e.
    Faulted.one_refusal (g.T.AsnType.schema g.T.AsnType.CONSTRAINTS) (g.T.AsnType.levelled g.T.AsnType.CONSTRAINTS) l (reading strict (variant_of codec)) (g.T.AsnType.value x) octets d.ok.are_read other (g.T.AsnType.levels x) answer e

pub returns-clause-none : goal.returns-clause-none
returns-clause-none g c = λ l i strict codec other x octets answer d e.
    Faulted.no_refusal (g.T.AsnType.schema g.T.AsnType.CONSTRAINTS) (g.T.AsnType.levelled g.T.AsnType.CONSTRAINTS) l (reading strict (variant_of codec)) (g.T.AsnType.value x) octets d.ok.are_read other i (g.T.AsnType.levels x) answer e
