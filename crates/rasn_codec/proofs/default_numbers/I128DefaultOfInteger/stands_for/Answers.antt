use Rattle.std.proofs.Common.{FitsSigned, ap, of_z, rules, to_z, to_z-of_z, ℤ, ◌∙◌}
use mir.Syntax.{w128}
use Rattle.rasn_types.specs.Values.{same, whole}
use Rattle.rasn_schema.specs.Normal.{normal}
use Rattle.rasn_codec.proofs.SameValues.{same_whole}
use Rattle.rasn_codec.proofs.default_numbers.I128DefaultOfInteger.stands_for.Goals as goal

pub returns : goal.returns
unfolding normal
returns c =
    let own : FitsSigned w128 c.args.self.now = search rules in
    let e = same_whole (to_z w128 (of_z w128 c.args.self.now)) c.args.component.now ∙ ap (λ (z : ℤ). same (whole c.args.component.now) (whole z)) (to_z-of_z own) in
    record { at = λ n le. rw (c.eq-2.ensures, c.from.ensures) e }
