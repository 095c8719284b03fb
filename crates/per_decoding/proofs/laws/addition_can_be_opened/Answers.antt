use Rattle.std.proofs.Common.{refl, [], length}
use Rattle.rasn_types.specs.Bits.{unpack}
use Rattle.per_decoding.specs.Additions.{OutsideAddition}
use Rattle.per_decoding.specs.State.{State}
use Rattle.per_core.specs.AdditionFaults.{shown}
use Rattle.per_decoding.proofs.laws.addition_can_be_opened.Goals as goal

pub returns : goal.returns
returns k = λ c s t v h.
    let m = h.middle in
    let x = h.took.spelled in
    let w : OutsideAddition = record { bits = t.bits; source = m.source; presences = m.presences; extension = m.extension; expected = m.expected; total = length (unpack x.octets) } in
    let i : State = record m { bits = unpack x.octets; presences = []; extension = shown []; expected = 0 } in
    (w, i, record { middle = m; asks = h.asks; octets = x.octets; took = record { front = h.took.front; joins = h.took.joins; spelled = x.spelled }; contents = refl; waits = refl; same = refl })
