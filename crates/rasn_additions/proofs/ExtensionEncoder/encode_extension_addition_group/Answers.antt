use Rattle.std.proofs.Common.{rules}
use Rattle.std.proofs.lemmas.Result.{err_from_is_err_and}
use Rattle.rasn_additions.proofs.AdditionLaws.{group_closed, group_refused, group_surplus, record_is_group}
use Rattle.rasn_additions.proofs.ExtensionEncoder.encode_extension_addition_group.Goals as goal

pub returns-in_err-outside : goal.returns-in_err-outside
returns-in_err-outside g c =
    let p = err_from_is_err_and c.from_residual.result c.from_residual.ensures.1 in
    record {
      law = rw (c.in-Some.is, p.1, p.2) (record { at = λ n le. group_surplus g.Self.Encoder.rules g.met.Self.Encoder.lawful _ _ c.args.self.now c.open_addition.new.self _ c.in_err-outside.ensures.law });
      behaves = search rules;
    }

pub returns-in_err-encode_with_tag_and_constraints : goal.returns-in_err-encode_with_tag_and_constraints
returns-in_err-encode_with_tag_and_constraints g c =
    let p = err_from_is_err_and c.from_residual-in_err-encode_with_tag_and_constraints.result c.from_residual-in_err-encode_with_tag_and_constraints.ensures.1 in
    let o = c.in_ok-outside.ensures.law in
    let w = rw c.CONSTRAINTS.ensures at c.in_err-encode_with_tag_and_constraints.ensures.law in
    record {
      law = rw (c.in-Some.is, p.1, p.2) (record {
        at = λ n le. group_refused g.Self.Encoder.rules g.met.Self.Encoder.lawful _ _ c.args.self.now c.open_addition.new.self c.encode_with_tag_and_constraints.new.encoder c.encode_with_tag_and_constraints.new.encoder _
            (record_is_group g.T.Constructed.parts g.T.Constructed.IS_EXTENSIBLE g.T.Constructed.additions (g.met.T.AdditionGroup.is_sequence g.T.AsnType.CONSTRAINTS) n) o.1 (w.at n le);
      });
      behaves = search rules;
    }

pub returns : goal.returns
returns g c =
    let o = c.in_ok-outside.ensures.law in
    let w = rw c.CONSTRAINTS.ensures at c.in_ok-encode_with_tag_and_constraints.ensures.law in
    record {
      law = rw c.in-Some.is (record { at = λ n le. group_closed g.Self.Encoder.rules g.met.Self.Encoder.lawful _ _ _ _ _ (c.close_group.ensures.law c.args.self.now c.open_addition.new.self n _ o.0 (w.at n le)) });
      behaves = search rules;
    }
