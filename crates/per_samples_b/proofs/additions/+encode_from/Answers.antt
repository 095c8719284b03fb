use Rattle.std.proofs.Common.{◌≡◌, ◌+◌, suc, arith, rules}
use Rattle.std.proofs.lemmas.List.{nil_from_length}
use Rattle.std.proofs.lemmas.Result.{err_from_is_err_and}
use Rattle.rasn_below.specs.Calls.{presents_no_more}
use Rattle.rasn_below.specs.Types.{normals}
use Rattle.rasn_below.proofs.Writing.{addition_normal, addition_refused, addition_written}
use Rattle.per_samples_b.proofs.Truths.{takes_no_level}
use Rattle.per_samples_b.proofs.additions.+encode_from.Goals as goal

pub returns-in_err-encode_component-in-Some : goal.returns-in_err-encode_component-in-Some
returns-in_err-encode_component-in-Some g t c =
    let p = err_from_is_err_and c.from_residual.result c.from_residual.ensures.1 in
    let w = c.in_err-encode_component-in-Some.ensures.law in
    record {
      law = rw (p.1, p.2, c.in-Some.ensures.cases.0) (record { at = λ n le. rw (addition_normal _ _ _ _ _ _) (addition_refused g.E.Encoder.rules _ _ _ _ _ c.encode_component.new.encoder _ _ _ (w.at n (takes_no_level _ n))) });
      fails = search rules;
      kept = search rules;
    }

pub returns-in_ok-encode_component-in-Some : goal.returns-in_ok-encode_component-in-Some
returns-in_ok-encode_component-in-Some g t c =
    let w = c.in_ok-encode_component-in-Some.ensures.law in
    let next : c.args.place + 1 ≡ suc c.args.place = omega arith in
    let v = rw next at c.encode_from.ensures.law in
    record {
      law = rw c.in-Some.ensures.cases.0 (record { at = λ n le. rw (addition_normal _ _ _ _ _ _) (addition_written g.E.Encoder.rules g.met.E.Encoder.lawful _ _ _ _ _ _ _ _ (w.at n (takes_no_level _ n)) _ _ (v.at n le)) });
      fails = search rules;
      kept = search rules;
    }

pub returns-in-None : goal.returns-in-None
unfolding normals
returns-in-None g t c = rw (nil_from_length c.args.options.now c.in-None.ensures.cases) (record { law = record { at = λ n le. presents_no_more }; fails = search rules; kept = search rules })
