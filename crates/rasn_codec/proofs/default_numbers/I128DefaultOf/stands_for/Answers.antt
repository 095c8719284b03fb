use Rattle.std.proofs.Common.{FitsSigned, rules}
use mir.Syntax.{w128}
use Rattle.rasn_schema.specs.Normal.{normal}
use Rattle.rasn_codec.proofs.SameValues.{same_signed}
use Rattle.rasn_codec.proofs.default_numbers.I128DefaultOf.stands_for.Goals as goal

pub returns : goal.returns
unfolding normal
returns c =
    let own : FitsSigned w128 c.args.self.now = search rules in
    let other : FitsSigned w128 c.args.component.now = search rules in
    record { at = λ n le. same_signed w128 c.args.self.now c.args.component.now own other }
