use Rattle.std.proofs.Common.{◌∙◌}
use Rattle.std.specs.Int.{w16, w32}
use Rattle.std.proofs.lemmas.Int.{to_z-of_z}
use Rattle.rasn_strings.proofs.Calendar.{back8, moment_found_of}
use Rattle.rasn_strings.proofs.moment.moment_of.Goals as goal

pub returns : goal.returns
returns c = rw c.ok.ensures.value (moment_found_of c.args.year c.args.digits.now c.args.nanosecond _ _ _ _ _ _ _ c.new.result c.requires.year c.requires.fraction (to_z-of_z w16 c.args.year c.ranges.year) (to_z-of_z w32 c.args.nanosecond c.ranges.nanosecond)
    (back8 _ c.two-month.type_inv ∙ c.two-month.ensures) (back8 _ c.two-day.type_inv ∙ c.two-day.ensures) (back8 _ c.two-hour.type_inv ∙ c.two-hour.ensures) (back8 _ c.two-minute.type_inv ∙ c.two-minute.ensures) (back8 _ c.two-second.type_inv ∙ c.two-second.ensures) c.new.ensures.succeeds c.new.ensures.value)
