use Rattle.rasn_strings.proofs.GeneralizedTexts.{century, within_century, fraction_back, characters_written}
use Rattle.rasn_strings.proofs.generalized_time.written.Goals as goal

pub returns : goal.returns
returns g c = rw (c.in_ok-push.ensures.items, c.in_ok-push_fraction.ensures, c.in_ok-push_moment.ensures, c.in_ok-push_two-2.ensures, c.in_ok-push_two.ensures, c.new-text.ensures.items)
    (characters_written c.args.moment _ _ _ (century c.year.result c.args.moment.date.year c.year.type_inv c.year.ensures c.requires) (within_century c.year-2.result c.args.moment.date.year c.year-2.type_inv c.year-2.ensures c.requires)
    (fraction_back c.subsec_nanosecond.result c.args.moment.time.subsec_nanosecond c.subsec_nanosecond.type_inv c.subsec_nanosecond.ensures))
