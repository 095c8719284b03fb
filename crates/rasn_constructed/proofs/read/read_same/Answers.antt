use Rattle.std.proofs.Common.{rules, subst, sym}
use Rattle.std.proofs.lemmas.Result.{err_from_is_err_and}
use Rattle.rasn_constructed.proofs.read.read_same.Goals as goal

pub returns-in_err-value : goal.returns-in_err-value
returns-in_err-value g c =
    let p = err_from_is_err_and c.from_residual.result c.from_residual.ensures.1 in
    let l = rw (g.met.H.Same.same_trees (g.D.Decoder.rules.levels c.args.decoder.now)) at c.in_err-value.ensures.law in
    record { law = rw (p.1, p.2) l; behaves = search rules }

pub returns : goal.returns
returns g c =
    let l = rw (g.met.H.Same.same_trees (g.D.Decoder.rules.levels c.args.decoder.now)) at c.in_ok-value.ensures.law in
    record {
      law = subst (λ v. g.D.Decoder.rules.spells (g.T.AsnType.schema g.T.AsnType.CONSTRAINTS (g.D.Decoder.rules.levels c.args.decoder.now)) c.args.decoder.now v c.read_held.new.decoder)
          (sym c.same.ensures) l;
      behaves = search rules;
    }
