use Rattle.std.proofs.Common.{arith}
use Rattle.std.proofs.lemmas.List.{get_or_past}
use Rattle.rasn_types.proofs.Reading.{begins_negative, begins_natural, steps, stops}
use Rattle.rasn_types.proofs.integer.whole_of_octets.Goals as goal
use Rattle.rasn_types.proofs.integer.whole_of_octets.Goals.{in-len1-up, in_default, in_default-2}

pub loop-octet-init : goal.loop-octet-init
loop-octet-init c = elim c.if-octets-lt1.branch [
  | in-len1-up w ↦ begins_negative c.args.octets.now _ c.type_inv.octets w.if-first-ge128.true w.number-is
  | in_default w ↦ begins_natural c.args.octets.now _ c.type_inv.octets (omega (arith, get_or_past c.args.octets.now 0 0 (omega arith))) w.number-is
  | in_default-2 w ↦ begins_natural c.args.octets.now _ c.type_inv.octets w.if-first-ge128.false w.number-is
]

pub returns-in_err-number-clause-none : goal.returns-in_err-number-clause-none
returns-in_err-number-clause-none c = rw c.from_residual.ensures (stops c.args.octets.now c.loop-octet.octet-index _ c.loop-octet-test.true c.in_err-number.ensures c.loop-octet.invariant)

pub loop-octet-preserved : goal.loop-octet-preserved
loop-octet-preserved c = steps c.args.octets.now c.loop-octet.octet-index _ c.in_ok-number.field-0 c.from.result c.loop-octet-test.true (c.type_inv.octets c.loop-octet.octet-index) c.in_ok-number.ensures.0 c.in_ok-number.ensures.1 c.from.ensures c.loop-octet.invariant
