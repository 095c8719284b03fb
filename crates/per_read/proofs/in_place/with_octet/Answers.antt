use Rattle.std.proofs.Common.{arith}
use Rattle.per_read.proofs.InPlace.{adds_past, adds_beyond, adds_octet}
use Rattle.per_read.proofs.in_place.with_octet.Goals as goal

pub returns-in_err-number : goal.returns-in_err-number
returns-in_err-number c = adds_past c.args.number c.from_residual.result c.args.octet c.requires c.in_err-number.was c.from_residual.ensures

pub returns-in_err-checked_mul : goal.returns-in_err-checked_mul
returns-in_err-checked_mul c =
    adds_beyond c.args.number c.from_residual-in_err-checked_mul.result c.args.octet c.requires c.in_ok-number.field-0 c.in_ok-number.was c.from_residual-in_err-checked_mul.ensures (omega (arith, c.in_err-checked_mul.ensures))

pub returns : goal.returns
returns c = adds_octet c.args.number c.checked_add.result c.args.octet c.requires c.in_ok-number.field-0 c.in_ok-checked_mul.field-0 c.in_ok-number.was c.in_ok-checked_mul.ensures.1 c.checked_add.ensures
