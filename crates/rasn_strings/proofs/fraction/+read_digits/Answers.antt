use Rattle.std.proofs.Common.{sym, ◌-◌, inl, inr, arith}
use borrow.Author.Tests.{eqb-true, eqb-false}
use Rattle.rasn_strings.proofs.Fractions.{ends_not, last_digit, next_digit, digits_not, mul_fits, unit_fits}
use Rattle.rasn_strings.proofs.fraction.+read_digits.Goals as goal
use Rattle.rasn_strings.proofs.fraction.+read_digits.Goals.{then-places-eq0-via-then-places-eq0, then-places-eq0-via-else-places-eq0+then-is_empty, then-places-eq0-via-else-places-eq0+else-is_empty+then-not-is_ascii_digit, else-first-gt0-via-then-first-gt0+then-text-eq2+else-text-eq90, else-first-gt0-via-then-first-gt0+else-text-eq2, else-first-gt0-via-else-first-gt0}

pub returns-then-places-eq0 : goal.returns-then-places-eq0
returns-then-places-eq0 t c = ends_not c.args.places c.args.text.now (elim c.then-places-eq0.branch [
  | then-places-eq0-via-then-places-eq0 w ↦ inl w.if-places-eq0.true
  | then-places-eq0-via-else-places-eq0+then-is_empty w ↦ inr (inl (eqb-true _ 0 (sym w.if-is_empty.ensures)))
  | then-places-eq0-via-else-places-eq0+else-is_empty+then-not-is_ascii_digit w ↦ inr (inr w.if-not-is_ascii_digit.ensures.cases)
])

pub overflow_mul-first : goal.overflow_mul-first
overflow_mul-first t c = let e = c.from.ensures in let d = c.if-not-is_ascii_digit.ensures.cases in let h = mul_fits c.from.result c.unit_of-unit.result _ (omega arith) c.unit_of-unit.ensures (omega arith) in omega arith

pub returns-then-text-eq90 : goal.returns-then-text-eq90
returns-then-text-eq90 t c = last_digit c.args.places _ c.unit_of-unit.result c.from.result c.args.text.now (omega (arith, c.if-places-eq0.false)) c.unit_of-unit.ensures c.if-text-eq2.true c.if-text-eq90.true c.if-not-is_ascii_digit.ensures.cases c.from.ensures c.if-first-gt0.true

pub returns-in_err-rest : goal.returns-in_err-rest
returns-in_err-rest t c = rw c.from_residual.ensures (digits_not c.args.places _ c.unit_of-unit.result c.from.result c.args.text.now (omega (arith, c.if-places-eq0.false)) c.unit_of-unit.ensures (eqb-false _ 0 (sym c.if-is_empty.ensures)) c.if-not-is_ascii_digit.ensures.cases c.from.ensures (elim c.else-first-gt0.branch [
  | else-first-gt0-via-then-first-gt0+then-text-eq2+else-text-eq90 w ↦ (λ a b. w.if-text-eq90.false)
  | else-first-gt0-via-then-first-gt0+else-text-eq2 w ↦ (λ a b. absurd (w.if-text-eq2.false b))
  | else-first-gt0-via-else-first-gt0 w ↦ (λ a b. absurd (let i = w.if-first-gt0.false in omega arith))
]) c.in_err-rest.ensures)

pub overflow_add-result : goal.overflow_add-result
overflow_add-result t c = let e = c.from.ensures in let d = c.if-not-is_ascii_digit.ensures.cases in let h = mul_fits c.from.result c.unit_of-unit.result _ (omega arith) c.unit_of-unit.ensures (omega arith) in let b = c.in_ok-rest.ensures.below in let i = unit_fits (c.args.places - 1) (omega arith) in omega arith

pub returns : goal.returns
returns t c = next_digit c.args.places _ c.unit_of-unit.result c.from.result c.in_ok-rest.rest c.args.text.now (omega (arith, c.if-places-eq0.false)) c.unit_of-unit.ensures (eqb-false _ 0 (sym c.if-is_empty.ensures)) c.if-not-is_ascii_digit.ensures.cases c.from.ensures c.in_ok-rest.ensures
