use Rattle.per_versions.proofs.Relayed
use Rattle.per_versions.proofs.relays.what_was_decoded_is_in_reach.Goals as goal
use Rattle.rasn_per.specs.Calls.{reading}
use Rattle.rasn_types.specs.Variants.{variant_of}

pub returns-clause-of_older : goal.returns-clause-of_older
returns-clause-of_older g c = λ l k strict codec x octets d.
    Relayed.in_older_reach (reading strict (variant_of codec)) (g.New.AsnType.schema g.New.AsnType.CONSTRAINTS) (g.Old.AsnType.schema g.Old.AsnType.CONSTRAINTS) (g.New.AsnType.levelled g.New.AsnType.CONSTRAINTS) l.lawful k (g.New.AsnType.value x) octets d.ok.are_read

pub returns-clause-of_newer : goal.returns-clause-of_newer
returns-clause-of_newer g c = λ l k strict codec x octets d.
    Relayed.in_newer_reach (reading strict (variant_of codec)) (g.New.AsnType.schema g.New.AsnType.CONSTRAINTS) (g.Old.AsnType.schema g.Old.AsnType.CONSTRAINTS) (g.Old.AsnType.levelled g.Old.AsnType.CONSTRAINTS) l.lawful k (g.Old.AsnType.value x) octets d.ok.are_read
