use Rattle.per_read.proofs.Fronts.{front_took, no_front}
use Rattle.per_read.proofs.OneByOne.{items_within}
use Rattle.per_read.proofs.InPlace.{none_appended}
use Rattle.per_read.proofs.in_place.take_bare_octets_onto.Goals as goal

pub returns-in_err-octets : goal.returns-in_err-octets
returns-in_err-octets c =
    let h = c.in_err-octets.ensures in
    none_appended _ _ c.from_residual.ensures.1 h.kept (h.err.0, no_front h.err.1)

pub with_octets-requires : goal.with_octets-requires
with_octets-requires c = (front_took c.in_ok-octets.ensures.ok).0

pub returns : goal.returns
returns c =
    let h = c.in_ok-octets.ensures in
    record { ok = items_within c.with_octets.ensures (front_took h.ok).1; err = tt; kept = h.kept }
