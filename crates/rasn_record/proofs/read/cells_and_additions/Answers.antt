use Rattle.std.proofs.Common.{rules}
use Rattle.std.proofs.lemmas.Result.{err_from_is_err_and}
use Rattle.rasn_traits.proofs.Reading.{fails_root}
use Rattle.rasn_traits.specs.Scopes.{AreRead}
use Rattle.rasn_record.proofs.BothRead.{addition_unread, fields_read}
use Rattle.rasn_record.proofs.read.cells_and_additions.Goals as goal

pub returns-in_err-before : goal.returns-in_err-before
returns-in_err-before g c =
    let p = err_from_is_err_and c.from_residual.result c.from_residual.ensures.1 in
    record { law = rw (p.1, p.2) (fails_root g.met.D.Decoder.lawful c.in_err-before.ensures.law); fails = search rules; kept = search rules }

pub returns-in_err-behind : goal.returns-in_err-behind
returns-in_err-behind g c =
    let p = err_from_is_err_and c.from_residual-in_err-behind.result c.from_residual-in_err-behind.ensures.1 in
    record {
      law = rw (p.1, p.2) (addition_unread g.met.D.Decoder.lawful (g.P.DecodeParts.parts c.args.cells.now) (g.Q.DecodeAdditions.additions c.args.additions.now) _ c.in_ok-before.ensures.law c.in_err-behind.ensures.law);
      fails = search rules;
      kept = search rules;
    }

pub returns : goal.returns
unfolding AreRead
returns g c = record {
  law = fields_read g.met.D.Decoder.lawful (g.P.DecodeParts.parts c.args.cells.now) (g.Q.DecodeAdditions.additions c.args.additions.now) _ c.in_ok-before.ensures.law _ _ c.in_ok-behind.ensures.law;
  fails = search rules;
  kept = search rules;
}
