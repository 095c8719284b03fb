use Rattle.std.proofs.Common.{refl, sym, ap, not, Some, rules, ◌∙◌}
use Rattle.rasn_schema.specs.Schemas.{optional, default}
use Rattle.rasn_traits.proofs.Optionals.{bit_written, of_freely, written_as}
use Rattle.rasn_record.proofs.sides.RootEncodeSide.encode_default.Goals as goal

pub returns-then-stands_for : goal.returns-then-stands_for
returns-then-stands_for g c = record {
  law = record {
    at = λ n le.
        let e = ap (λ b. Some (not b)) (sym (c.stands_for.ensures.at n le) ∙ c.if-stands_for.true) in
        of_freely g.E.Encoder.rules _ _ _ _ _ _ (bit_written g.E.Encoder.rules _ _ _ (default (g.K.DefaultOf.default c.args.default.now)) _ _ e c.set_presence.ensures.law);
  };
  behaves = search rules;
}

pub returns : goal.returns
returns g c =
    let w = c.encode_some_with_tag_and_constraints.ensures.law in
    record {
      law = record {
        at = λ n le.
            let e = ap (λ b. Some (not b)) (sym (c.stands_for.ensures.at n le) ∙ c.if-stands_for.false) in
            written_as g.E.Encoder.rules _ _ _ optional (default (g.K.DefaultOf.default c.args.default.now)) _ _ refl e (w.at n le);
      };
      behaves = search rules;
    }
