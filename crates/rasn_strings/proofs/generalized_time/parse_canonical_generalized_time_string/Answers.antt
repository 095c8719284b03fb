use Rattle.std.proofs.Common.{◌≡◌, ◌∙◌, sym, ap, refl, inl, inr, false, true, true≢false}
use Rattle.rasn_types.specs.Contents.{is_time, TimeKind}
use Rattle.rasn_strings.specs.Moments.{generalized_text}
use Rattle.rasn_strings.proofs.GeneralizedTexts.{is_time-generalized_text, generalized_same, text_is, not_digits, not_fraction, not_moment}
use Rattle.rasn_strings.proofs.generalized_time.parse_canonical_generalized_time_string.Goals as goal
use Rattle.rasn_strings.proofs.generalized_time.parse_canonical_generalized_time_string.Goals.{then-text-lt14-via-then-text-lt14, then-text-lt14-via-else-text-lt14+then-not-are_digits}

other_form : (c : goal.Joined-then-text-lt14) → is_time TimeKind.generalized c.args.text.now ≡ false
other_form c = not_digits c.args.text.now (elim c.then-text-lt14.branch [
  | then-text-lt14-via-then-text-lt14 w ↦ inl w.if-text-lt14.true
  | then-text-lt14-via-else-text-lt14+then-not-are_digits w ↦ inr (sym w.if-not-are_digits.ensures)
])

pub returns-then-text-lt14-clause-refused : goal.returns-then-text-lt14-clause-refused
returns-then-text-lt14-clause-refused c = (λ e. other_form c, λ e. refl)

pub returns-then-text-lt14-clause-accepted : goal.returns-then-text-lt14-clause-accepted
returns-then-text-lt14-clause-accepted c = (λ i. absurd (true≢false (sym i)), λ e. absurd (true≢false (sym e ∙ other_form c)))

pub returns-in-None-clause-refused : goal.returns-in-None-clause-refused
returns-in-None-clause-refused c = (λ e. not_fraction c.args.text.now c.if-text-lt14.false c.in-None.ensures, λ e. refl)

pub returns-in-None-clause-accepted : goal.returns-in-None-clause-accepted
returns-in-None-clause-accepted c = (λ i. absurd (true≢false (sym i)), λ e. absurd (true≢false (sym e ∙ not_fraction c.args.text.now c.if-text-lt14.false c.in-None.ensures)))

-- what was read is the text of the moment
same_text : (c : goal.In-Some-generalized_moment) → generalized_text c.in-Some-generalized_moment.moment ≡ c.args.text.now
same_text c = text_is c.in-Some-generalized_moment.moment c.in-Some.nanosecond c.args.text.now c.if-text-lt14.false c.in-Some.ensures c.in-Some-generalized_moment.ensures

lawful : (c : goal.In-Some-generalized_moment) → is_time TimeKind.generalized c.args.text.now ≡ true
lawful c = sym (ap (is_time TimeKind.generalized) (same_text c)) ∙ is_time-generalized_text c.in-Some-generalized_moment.moment ∙ c.in-Some-generalized_moment.ensures.held

pub returns-in-Some-generalized_moment-clause-read : goal.returns-in-Some-generalized_moment-clause-read
returns-in-Some-generalized_moment-clause-read c = same_text c

pub returns-in-Some-generalized_moment-clause-one : goal.returns-in-Some-generalized_moment-clause-one
returns-in-Some-generalized_moment-clause-one c = λ time h e. (generalized_same time c.in-Some-generalized_moment.moment h c.in-Some-generalized_moment.ensures.held (e ∙ sym (same_text c)))

pub returns-in-Some-generalized_moment-clause-refused : goal.returns-in-Some-generalized_moment-clause-refused
returns-in-Some-generalized_moment-clause-refused c = (λ e. absurd (cc), λ e. absurd (true≢false (sym (lawful c) ∙ e)))

pub returns-in-Some-generalized_moment-clause-accepted : goal.returns-in-Some-generalized_moment-clause-accepted
returns-in-Some-generalized_moment-clause-accepted c = (λ i. lawful c, λ e. refl)

pub returns-in-None-generalized_moment-clause-refused : goal.returns-in-None-generalized_moment-clause-refused
returns-in-None-generalized_moment-clause-refused c = (λ e. not_moment c.args.text.now c.if-text-lt14.false c.in-None-generalized_moment.ensures, λ e. refl)

pub returns-in-None-generalized_moment-clause-accepted : goal.returns-in-None-generalized_moment-clause-accepted
returns-in-None-generalized_moment-clause-accepted c = (λ i. absurd (true≢false (sym i)), λ e. absurd (true≢false (sym e ∙ not_moment c.args.text.now c.if-text-lt14.false c.in-None-generalized_moment.ensures)))
