use Rattle.std.proofs.Common.{◌≡◌, ap, ◌∙◌, sym, subst, Some, inr, option_map, FitsSigned}
use borrow.Author.Rules.{to_z-of_z_to}
use Rattle.std.specs.Int.{w128}
use Rattle.rasn_types.specs.Values.{whole}
use Rattle.rasn_dynamic_jer.specs.FromJson.{whole_told}
use Rattle.rasn_dynamic_jer.proofs.Digits.{whole_none, whole_some}
use Rattle.rasn_dynamic_jer.proofs.Untold.{integer_slot}
use Rattle.rasn_dynamic_jer.proofs.read_simple.whole_of.Goals as goal

pub returns-in-Ok : goal.returns-in-Ok
returns-in-Ok c =
    let p = c.in-Ok.ensures.value.0 in
    let f : FitsSigned w128 c.in-Ok.number = subst (FitsSigned w128) (sym p.1) p.0.1 in
    let e : whole_told c.args.digits.now ≡ Some (whole c.from.result) = whole_some c.args.digits.now p.0 ∙ ap (λ z. Some (whole z)) (sym (c.from.ensures ∙ to_z-of_z_to w128 c.in-Ok.number _ f p.1)) in
    ap (option_map Some) e ∙ ap Some (sym (integer_slot c.from.result))

pub returns-in-Err : goal.returns-in-Err
returns-in-Err c = inr (whole_none c.args.digits.now c.in-Err.ensures.value.0)
