use Rattle.std.proofs.lemmas.Result.{err_from_is_err_and}
use Rattle.per_de.proofs.Steps.{no_flags}
use Rattle.per_de.proofs.Decoder.next_addition.Goals as goal

pub returns-in_err-flags : goal.returns-in_err-flags
returns-in_err-flags c =
    let p = err_from_is_err_and c.from_residual-in_err-flags.result c.from_residual-in_err-flags.ensures.1 in
    rw (p.1, p.2) (no_flags c.args.self.now _ _ _ c.in_ok-check_root_read.ensures.1 c.in_err-flags.ensures)
