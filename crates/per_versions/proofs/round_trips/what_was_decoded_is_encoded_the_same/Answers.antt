use Rattle.per_versions.proofs.Laws
use Rattle.per_versions.proofs.round_trips.what_was_decoded_is_encoded_the_same.Goals as goal
use Rattle.rasn_per.specs.Calls.{reading}
use Rattle.rasn_types.specs.Variants.{variant_of}

pub returns-clause-same : goal.returns-clause-same
returns-clause-same g c = λ strict codec x y octets others h d i.
    let r = (Laws.own_reads (reading strict (variant_of codec)) (g.T.AsnType.schema g.T.AsnType.CONSTRAINTS) (g.T.AsnType.levelled g.T.AsnType.CONSTRAINTS) (g.T.AsnType.levels x) (g.T.AsnType.value x) octets h (g.T.AsnType.value y)).0 d.ok.are_read in
    Laws.again (variant_of codec) (g.T.AsnType.schema g.T.AsnType.CONSTRAINTS) (g.T.AsnType.levelled g.T.AsnType.CONSTRAINTS) (g.T.AsnType.levels x) (g.T.AsnType.levels y) (g.T.AsnType.value x) (g.T.AsnType.value y) octets h r others i

pub returns-clause-encoded : goal.returns-clause-encoded
returns-clause-encoded g c = λ strict codec x y octets h d i.
    let r = (Laws.own_reads (reading strict (variant_of codec)) (g.T.AsnType.schema g.T.AsnType.CONSTRAINTS) (g.T.AsnType.levelled g.T.AsnType.CONSTRAINTS) (g.T.AsnType.levels x) (g.T.AsnType.value x) octets h (g.T.AsnType.value y)).0 d.ok.are_read in
    Laws.never_none (variant_of codec) (g.T.AsnType.schema g.T.AsnType.CONSTRAINTS) (g.T.AsnType.levelled g.T.AsnType.CONSTRAINTS) (g.T.AsnType.levels x) (g.T.AsnType.levels y) (g.T.AsnType.value x) (g.T.AsnType.value y) octets h r i
