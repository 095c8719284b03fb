use Rattle.std.proofs.Common.{arith}
use Rattle.std.proofs.lemmas.Result.{err_from_is_err_and}
use Rattle.per_bits.proofs.Spare.{no_spare}
use Rattle.per_bits.proofs.ended.ended.Goals as goal

pub returns-in_err-check_spare_bits-clause-none : goal.returns-in_err-check_spare_bits-clause-none
returns-in_err-check_spare_bits-clause-none c =
    rw (err_from_is_err_and c.from_residual.result c.from_residual.ensures.1).1 (no_spare _ _ _ c.in_err-check_spare_bits.field-0.0 (omega (arith, c.if-count-total.true, c.len-count.ensures)) c.in_err-check_spare_bits.ensures.err)
