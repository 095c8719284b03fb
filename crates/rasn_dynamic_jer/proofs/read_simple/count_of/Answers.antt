use Rattle.std.proofs.Common.{ap, ◌∙◌, sym, Some}
use Rattle.rasn_dynamic_jer.proofs.Digits.{count_none, count_some}
use Rattle.rasn_dynamic_jer.proofs.read_simple.count_of.Goals as goal

pub returns-in-Ok : goal.returns-in-Ok
returns-in-Ok c =
    let p = c.in-Ok.ensures.value.0 in
    ap Some p.1 ∙ sym (count_some c.args.digits.now p.0)

pub returns-in-Err : goal.returns-in-Err
returns-in-Err c = sym (count_none c.args.digits.now c.in-Err.ensures.value.0)
