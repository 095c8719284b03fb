use Rattle.std.proofs.Common.{◌∙◌, sym, ap, refl, inl, inr, true≢false}
use Rattle.rasn_types.specs.Contents.{is_time, TimeKind}
use Rattle.rasn_strings.proofs.UtcTexts.{is_time-utc_text, utc_same, not_utc, with_z}
use Rattle.rasn_strings.proofs.utc_time.parse_canonical_utc_time_string.Goals as goal
use Rattle.rasn_strings.proofs.utc_time.parse_canonical_utc_time_string.Goals.{then-text-ne13-via-then-text-ne13, then-text-ne13-via-else-text-ne13+then-text-ne90, then-text-ne13-via-else-text-ne13+else-text-ne90+then-not-are_digits}

pub returns-then-text-ne13-clause-refused : goal.returns-then-text-ne13-clause-refused
returns-then-text-ne13-clause-refused c = (
  λ e. not_utc c.args.text.now (elim c.then-text-ne13.branch [
    | then-text-ne13-via-then-text-ne13 w ↦ inl w.if-text-ne13.true
    | then-text-ne13-via-else-text-ne13+then-text-ne90 w ↦ inr (inl w.if-text-ne90.true)
    | then-text-ne13-via-else-text-ne13+else-text-ne90+then-not-are_digits w ↦ inr (inr (sym w.if-not-are_digits.ensures))
  ]),
  λ e. refl,
)

pub returns-in-Some-clause-read : goal.returns-in-Some-clause-read
returns-in-Some-clause-read c = c.in-Some.ensures.written ∙ with_z c.args.text.now c.if-text-ne13.false c.if-text-ne90.false

pub returns-in-Some-clause-one : goal.returns-in-Some-clause-one
returns-in-Some-clause-one c = λ time h e. (utc_same time c.in-Some.moment h c.in-Some.ensures.held (e ∙ sym (c.in-Some.ensures.written ∙ with_z c.args.text.now c.if-text-ne13.false c.if-text-ne90.false)))

pub returns-in-Some-clause-refused : goal.returns-in-Some-clause-refused
returns-in-Some-clause-refused c = (λ e. absurd (cc), λ e. absurd (true≢false (sym c.in-Some.ensures.held ∙ sym (is_time-utc_text c.in-Some.moment) ∙ ap (is_time TimeKind.utc) (c.in-Some.ensures.written ∙ with_z c.args.text.now c.if-text-ne13.false c.if-text-ne90.false) ∙ e)))

pub returns-in-None-clause-refused : goal.returns-in-None-clause-refused
returns-in-None-clause-refused c = (λ e. sym (ap (is_time TimeKind.utc) (with_z c.args.text.now c.if-text-ne13.false c.if-text-ne90.false)) ∙ c.in-None.ensures, λ e. refl)

pub returns-then-text-ne13-clause-accepted : goal.returns-then-text-ne13-clause-accepted
returns-then-text-ne13-clause-accepted c = (
  λ i. absurd (true≢false (sym i)),
  λ e. absurd (true≢false (sym e ∙ not_utc c.args.text.now (elim c.then-text-ne13.branch [
    | then-text-ne13-via-then-text-ne13 w ↦ inl w.if-text-ne13.true
    | then-text-ne13-via-else-text-ne13+then-text-ne90 w ↦ inr (inl w.if-text-ne90.true)
    | then-text-ne13-via-else-text-ne13+else-text-ne90+then-not-are_digits w ↦ inr (inr (sym w.if-not-are_digits.ensures))
  ]))),
)

pub returns-in-Some-clause-accepted : goal.returns-in-Some-clause-accepted
returns-in-Some-clause-accepted c = (λ i. sym (ap (is_time TimeKind.utc) (c.in-Some.ensures.written ∙ with_z c.args.text.now c.if-text-ne13.false c.if-text-ne90.false)) ∙ is_time-utc_text c.in-Some.moment ∙ c.in-Some.ensures.held, λ e. refl)

pub returns-in-None-clause-accepted : goal.returns-in-None-clause-accepted
returns-in-None-clause-accepted c = (λ i. absurd (true≢false (sym i)), λ e. absurd (true≢false (sym e ∙ sym (ap (is_time TimeKind.utc) (with_z c.args.text.now c.if-text-ne13.false c.if-text-ne90.false)) ∙ c.in-None.ensures)))
