use Rattle.std.proofs.Common.{◌≡◌, suc, ◌+◌, ◌-◌, arith, length, rules}
use Rattle.std.proofs.lemmas.Result.{IfOk-weaker, err_from_is_err_and}
use Rattle.rasn_below.specs.Calls.{reads_no_more}
use Rattle.rasn_below.proofs.Reading.{addition_reads_well, fails_addition}
use Rattle.per_samples_b.proofs.Arrays.{kept_before, none_after}
use Rattle.per_samples_b.proofs.Truths.{truths_read}
use Rattle.per_samples_b.proofs.additions.+decode_from.Goals as goal

pub returns-then-place-ge65-clause-read : goal.returns-then-place-ge65-clause-read
returns-then-place-ge65-clause-read g t c =
    let none : 65 - c.args.place ≡ 0 = omega arith in
    let last : c.args.place ≡ length c.args.options = omega arith in
    record { law = rw (none, last, none_after c.args.options) reads_no_more; fails = search rules; kept = search rules }

pub returns-in_err-option-clause-read : goal.returns-in_err-option-clause-read
returns-in_err-option-clause-read g t c =
    let p = err_from_is_err_and c.from_residual.result c.from_residual.ensures.1 in
    let left : 65 - c.args.place ≡ suc (65 - suc c.args.place) = omega arith in
    let a = rw c.context.ensures at c.in_err-option.ensures.law in
    record { law = rw (p.1, p.2, left) (fails_addition g.met.D.Decoder.lawful a); fails = search rules; kept = search rules }

pub returns-clause-kept : goal.returns-clause-kept
returns-clause-kept g t c =
    let next : c.args.place + 1 ≡ suc c.args.place = omega arith in
    IfOk-weaker c.decode_from.result _ _ (λ xs. kept_before c.args.place xs c.args.options c.in_ok-option.option) (rw next at c.decode_from.ensures.kept)

pub returns-clause-read : goal.returns-clause-read
returns-clause-read g t c =
    let left : 65 - c.args.place ≡ suc (65 - suc c.args.place) = omega arith in
    let a = c.in_ok-option.ensures.law in
    let l = (addition_reads_well g.met.D.Decoder.lawful _ _).level _ _ _ a in
    let next : c.args.place + 1 ≡ suc c.args.place = omega arith in
    let b = rw (next, l) at c.decode_from.ensures.read.law in
    let kept = rw next at c.decode_from.ensures.kept in
    record {
      law = rw left (truths_read g.met.D.Decoder.lawful c.args.place (65 - suc c.args.place) _ c.args.options c.in_ok-option.option _ c.decode_from.result (omega arith) kept a b);
      fails = search rules;
      kept = search rules;
    }
