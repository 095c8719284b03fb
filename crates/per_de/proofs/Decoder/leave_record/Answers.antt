use Rattle.std.proofs.Common.{◌≡◌, ◌∙◌, ap, arith, rules}
use Rattle.std.proofs.lemmas.Result.{err_from_is_err_and}
use Rattle.per_decoding.specs.Scopes.{with_outside_record}
use Rattle.per_de.specs.Outsides.{outside_record_of}
use Rattle.per_de.proofs.Additions.{record_closed, rest_unread}
use Rattle.per_de.proofs.Decoder.leave_record.Goals as goal

pub returns-in_err-skip_rest : goal.returns-in_err-skip_rest
returns-in_err-skip_rest c =
    let p = err_from_is_err_and c.from_residual-in_err-skip_rest.result c.from_residual-in_err-skip_rest.ensures.1 in
    let s = c.args.self.now in
    let r = c.in_ok-check_root_read.ensures in
    let none : s.expected ≡ 0 = omega (arith, c.if-self-gt0.false, ap (λ z. z.expected) c.self.view_is, ap (λ z. z.expected) r.1) in
    record { law = λ live. rw (p.1, p.2) (rest_unread s _ _ (outside_record_of s.source c.args.scope) _ r.1 r.0 none c.in_err-skip_rest.ensures); early = λ live no. absurd (no r.0 none); behaves = search rules }

pub returns : goal.returns
returns c =
    let s = c.args.self.now in
    let r = c.in_ok-check_root_read.ensures in
    let none : s.expected ≡ 0 = omega (arith, c.if-self-gt0.false, ap (λ z. z.expected) c.self.view_is, ap (λ z. z.expected) r.1) in
    let u = c.skip_rest.new.self in
    let source : u.source ≡ s.source = ap (λ z. z.source) c.in_ok-skip_rest.ensures.2 ∙ ap (λ z. z.source) r.1 in
    record {
      law = λ live. record_closed s _ u _ (outside_record_of s.source c.args.scope) r.1 r.0 none live c.in_ok-skip_rest.ensures (c.leave.ensures ∙ ap (λ z. with_outside_record u (outside_record_of z c.args.scope)) source);
      early = λ live no. absurd (no r.0 none);
      behaves = search rules;
    }
