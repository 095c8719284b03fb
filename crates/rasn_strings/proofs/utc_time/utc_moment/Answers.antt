use Rattle.std.proofs.Common.{refl}
use Rattle.rasn_strings.proofs.UtcTexts.{utc_found_in, year_sum, year_below, early, late}
use Rattle.rasn_strings.proofs.utc_time.utc_moment.Goals as goal
use Rattle.rasn_strings.proofs.utc_time.utc_moment.Goals.{then-year-lt50, else-year-lt50}

pub returns : goal.returns
returns c = utc_found_in c.moment_of.result c.args.digits.now _ c.requires.few c.requires.digits
    (year_sum _ c.if-year-lt50.century-bits c.two-year.result c.from.result _ (year_below c.args.digits.now c.requires.few c.requires.digits) c.two-year.ensures c.from.ensures refl
    (elim c.if-year-lt50.branch [ then-year-lt50 w ↦ early _ _ _ (year_below c.args.digits.now c.requires.few c.requires.digits) c.two-year.ensures w.if-year-lt50.true w.century-is | else-year-lt50 w ↦ late _ _ _ (year_below c.args.digits.now c.requires.few c.requires.digits) c.two-year.ensures w.if-year-lt50.false w.century-is ]))
    c.moment_of.ensures
