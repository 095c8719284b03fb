use Rattle.std.proofs.Common.{refl, sym, ap, ◌∙◌, subst, Some}
use Rattle.std.specs.Prelude.{nat_eq}
use Rattle.std.specs.Option.{option_eq}
use Rattle.rasn_dynamic_jer.proofs.Tokens.{counted_shown}
use Rattle.rasn_dynamic_jer.proofs.leaves.put_counted.Goals as goal

pub returns : goal.returns
returns c =
    let fixed = ap (λ m. option_eq nat_eq c.args.fixed (Some m)) (sym c.len.ensures) ∙ sym c.eq.ensures ∙ c.if-eq.false in
    counted_shown c.args.levels c.args.fixed c.args.bits.now c.put_counted_object.result fixed c.if-levels-eq0.false c.put_counted_object.ensures
