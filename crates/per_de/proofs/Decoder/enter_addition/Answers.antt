use Rattle.std.proofs.Common.{rules, Some, true}
use Rattle.std.proofs.lemmas.Result.{err_from_is_err_and}
use Rattle.per_decoding.specs.Additions.{Asks}
use Rattle.per_de.proofs.Additions.{no_addition, no_contents}
use Rattle.per_de.proofs.Decoder.enter_addition.Goals as goal

pub returns-in_err-next_addition : goal.returns-in_err-next_addition
returns-in_err-next_addition c =
    let p = err_from_is_err_and c.from_residual-in_err-next_addition.result c.from_residual-in_err-next_addition.ensures.1 in
    let r = c.in_err-next_addition.ensures in
    record { law = rw (p.1, p.2) (no_addition c.args.self.now _ r.0); behaves = search rules }

pub returns-in_err-enter_open_type-in-Some-true : goal.returns-in_err-enter_open_type-in-Some-true
returns-in_err-enter_open_type-in-Some-true c =
    let p = err_from_is_err_and c.from_residual-in_err-enter_open_type-in-Some-true.result c.from_residual-in_err-enter_open_type-in-Some-true.ensures.1 in
    let asks : Asks c.args.self.now (Some true) c.next_addition.new.self = search rules in
    record { law = rw (p.1, p.2) (no_contents c.args.self.now c.next_addition.new.self _ _ asks c.in_err-enter_open_type-in-Some-true.ensures); behaves = search rules }
