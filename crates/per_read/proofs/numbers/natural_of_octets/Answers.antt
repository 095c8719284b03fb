use Rattle.std.proofs.Common.{◌≤◌, ◌^◌, ◌*◌, arith}
use Rattle.per_read.proofs.Naturals.{too_great, unsigned_so_far}
use Rattle.per_read.proofs.numbers.natural_of_octets.Goals as goal

pub returns-in_err-number : goal.returns-in_err-number
returns-in_err-number c =
    let g : 2 ^ 128 ≤ c.loop-octet.number * 256 = omega (arith, c.in_err-number.ensures) in
    rw c.from_residual.ensures (too_great c.args.octets.now c.loop-octet.octet-index c.loop-octet.number c.loop-octet-test.true (c.type_inv.octets c.loop-octet.octet-index).fits c.loop-octet.invariant g)

pub loop-octet-preserved : goal.loop-octet-preserved
loop-octet-preserved c =
    let m = unsigned_so_far c.args.octets.now c.loop-octet.octet-index c.loop-octet-test.true (c.type_inv.octets c.loop-octet.octet-index).fits in
    omega (arith, c.in_ok-number.ensures, c.from.ensures, c.loop-octet.invariant)
