use Rattle.std.proofs.Common.{◌∙◌, sym}
use Rattle.rasn_traits.specs.Moments.{date_at}
use Rattle.rasn_dynamic.specs.Values.{levels_of, value_of}
use Rattle.rasn_dynamic.proofs.Places.{nothing_written, other_refused}
use Rattle.rasn_dynamic_codec.proofs.NoDate.{no_cut, no_day, something_held}
use Rattle.rasn_dynamic_codec.proofs.write_simple.refuse_no_day.Goals as goal

pub returns-in_default : goal.returns-in_default
returns-in_default g c = λ no. other_refused date_at (levels_of c.args.value.now) (value_of c.args.value.now) _ _ _ c.refuse_other.ensures
    (no_day (value_of c.args.value.now) no (no_cut (value_of c.args.value.now) c.in_default.ensures))

pub returns-then-hold_nothing : goal.returns-then-hold_nothing
returns-then-hold_nothing g c = λ no. nothing_written date_at (levels_of c.args.value.now) (value_of c.args.value.now) _ _ _ c.refuse_out_of_memory.ensures

pub returns : goal.returns
returns g c = λ no. other_refused date_at (levels_of c.args.value.now) (value_of c.args.value.now) _ _ _ c.refuse_other-2.ensures
    (no_day (value_of c.args.value.now) no (something_held (value_of c.args.value.now) _ _ c.in-Some.ensures (sym c.hold_nothing.ensures ∙ c.if-hold_nothing.false)))
