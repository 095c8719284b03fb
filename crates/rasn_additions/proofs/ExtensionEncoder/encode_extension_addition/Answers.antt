use Rattle.std.proofs.Common.{rules, ◌≡◌, ◌∙◌, sym, ap, Some, option_map}
use Rattle.std.proofs.lemmas.Result.{err_from_is_err_and}
use Rattle.rasn_additions.proofs.AdditionLaws.{value_refused, value_closed}
use Rattle.rasn_additions.proofs.ExtensionEncoder.encode_extension_addition.Goals as goal

pub returns-in_err-encode_with_tag_and_constraints : goal.returns-in_err-encode_with_tag_and_constraints
returns-in_err-encode_with_tag_and_constraints g c =
    let p = err_from_is_err_and c.from_residual-in_err-encode_with_tag_and_constraints.result c.from_residual-in_err-encode_with_tag_and_constraints.ensures.1 in
    let o = c.in_ok-outside.ensures.law in
    let q : g.V.AdditionValue.there c.args.value ≡ Some c.in-Some.value.now = sym c.value_there.ensures ∙ ap (option_map (λ x. x.now)) c.in-Some.is in
    record {
      law = rw (q, p.1, p.2) (record { at = λ n le. value_refused g.Self.Encoder.rules g.met.Self.Encoder.lawful _ _ c.args.self.now c.open_addition.new.self c.encode_with_tag_and_constraints.new.encoder c.encode_with_tag_and_constraints.new.encoder _ o.1 (c.in_err-encode_with_tag_and_constraints.ensures.law.at n le) });
      behaves = search rules;
    }

pub returns : goal.returns
returns g c =
    let o = c.in_ok-outside.ensures.law in
    let q : g.V.AdditionValue.there c.args.value ≡ Some c.in-Some.value.now = sym c.value_there.ensures ∙ ap (option_map (λ x. x.now)) c.in-Some.is in
    record {
      law = rw q (record { at = λ n le. value_closed g.Self.Encoder.rules g.met.Self.Encoder.lawful g.Self.Encoder.opens_addition _ _ _ _ _ _ o.0 (c.in_ok-encode_with_tag_and_constraints.ensures.law.at n le) _ _ c.close_addition.ensures });
      behaves = search rules;
    }
