use Rattle.std.proofs.Common.{◌≡◌, refl, sym, ◌∙◌, false, true≢false, w8}
use Rattle.std.specs.Int.{w16, w128}
use Rattle.std.proofs.lemmas.Int.{to_z-of_z}
use Rattle.rasn_types.specs.Contents.{is_date}
use Rattle.rasn_strings.proofs.Calendar.{date_refused}
use Rattle.rasn_strings.proofs.date.date_from_parts.Goals as goal

-- the calendar has no day with these numbers
no_day : (c : goal.In-Err) → is_date c.args.year c.args.month c.args.day ≡ false
no_day c =
    date_refused c.args.year _ _ _ c.args.month c.args.day
    (to_z-of_z w16 c.in-Ok-Ok-Ok.year (rw c.in-Ok-Ok-Ok.ensures.1 c.in-Ok-Ok-Ok.ensures.0) ∙ c.in-Ok-Ok-Ok.ensures.1 ∙ to_z-of_z w128 c.args.year c.ranges.year)
    (to_z-of_z w8 c.in-Ok-Ok-Ok.month (rw c.in-Ok-Ok-Ok.ensures'.1 c.in-Ok-Ok-Ok.ensures'.0) ∙ c.in-Ok-Ok-Ok.ensures'.1)
    (to_z-of_z w8 c.in-Ok-Ok-Ok.day (rw c.in-Ok-Ok-Ok.ensures''.1 c.in-Ok-Ok-Ok.ensures''.0) ∙ c.in-Ok-Ok-Ok.ensures''.1) (λ i. absurd (true≢false (sym (c.in-Err.ensures.succeeds.1 i))))

pub returns-in-Err-clause-refused : goal.returns-in-Err-clause-refused
returns-in-Err-clause-refused c = (λ e. no_day c, λ e. refl)

pub returns-in-Err-clause-accepted : goal.returns-in-Err-clause-accepted
returns-in-Err-clause-accepted c = (λ i. absurd (true≢false (sym i)), λ e. absurd (true≢false (sym e ∙ no_day c)))
