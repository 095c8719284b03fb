use Rattle.std.proofs.Common.{arith}
use Rattle.std.proofs.lemmas.Int.{to_z_pos}
use Rattle.std.specs.Int.{w32}
use Rattle.rasn_strings.proofs.GeneralizedTexts.{digits_read, four_sum}
use Rattle.rasn_strings.proofs.generalized_time.generalized_moment.Goals as goal

pub returns : goal.returns
returns c = digits_read c.moment_of.result c.args.digits.now c.args.nanosecond _ _ c.requires.few c.requires.digits (four_sum c.two.result c.two-2.result c.from.result c.from-2.result c.args.digits.now c.requires.few c.requires.digits c.two.ensures c.two-2.ensures c.from.ensures c.from-2.ensures) (to_z_pos w32 c.args.nanosecond (let h = c.requires.fraction in omega arith)) c.moment_of.ensures
