use Rattle.std.proofs.Common.{sym, ap, not, Some, ◌∙◌}
use Rattle.rasn_schema.specs.Normal.{settle}
use Rattle.rasn_schema.specs.Schemas.{default}
use Rattle.rasn_record.proofs.OneAddition.{given_absent, given_there}
use Rattle.rasn_additions.proofs.additions.AddedEncodeSide.encode_default.Goals as goal

pub returns-then-stands_for : goal.returns-then-stands_for
unfolding settle
returns-then-stands_for g c = record {
  law = record {
    at = λ n le.
        let e = ap (λ b. Some (not b)) (sym (c.stands_for.ensures.at n le) ∙ c.if-stands_for.true) in
        given_absent g.E.Encoder.rules (default (g.K.DefaultOf.default c.args.default.now)) _ _ _ _ _ e c.skip_addition.ensures.law;
  };
  behaves = c.skip_addition.ensures.behaves;
}

pub returns : goal.returns
unfolding settle
returns g c = record {
  law = record {
    at = λ n le.
        let e = ap (λ b. Some (not b)) (sym (c.stands_for.ensures.at n le) ∙ c.if-stands_for.false) in
        given_there g.E.Encoder.rules (default (g.K.DefaultOf.default c.args.default.now)) _ _ _ _ _ e (c.encode_extension_addition.ensures.law.at n le);
  };
  behaves = c.encode_extension_addition.ensures.behaves;
}
