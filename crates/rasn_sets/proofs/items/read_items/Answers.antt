use Rattle.std.proofs.Common.{◌∙◌}
use Rattle.std.proofs.lemmas.Result.{err_from_is_err_and}
use Rattle.rasn_sets.proofs.Ends.{items_end}
use Rattle.rasn_sets.proofs.SetsMade.{after_failed, items_read, root_failed}
use Rattle.rasn_sets.proofs.items.read_items.Goals as goal

pub returns-in_err-read_root : goal.returns-in_err-read_root
returns-in_err-read_root g c =
    let p = err_from_is_err_and c.from_residual.result c.from_residual.ensures.1 in
    record {
      law = λ ps qs place slot d b each. rw (p.1, p.2) (root_failed g.met.D.Decoder.lawful d b c.args.decoder.now each c.in_err-read_root.ensures.law);
      ended = rw p.1 tt;
      kept = c.read_root.ensures.kept;
    }

pub returns-in_err-read_after : goal.returns-in_err-read_after
returns-in_err-read_after g c =
    let p = err_from_is_err_and c.from_residual-in_err-read_after.result c.from_residual-in_err-read_after.ensures.1 in
    let a = rw c.new-items.ensures.items at c.in_ok-read_root.ensures.law in
    record {
      law = λ ps qs place slot d b each. rw (p.1, p.2) (after_failed g.met.D.Decoder.lawful d b c.args.decoder.now each a c.in_err-read_after.ensures.law);
      ended = rw p.1 tt;
      kept = λ k. c.read_after.ensures.kept k ∙ c.read_root.ensures.kept k;
    }

pub returns : goal.returns
returns g c =
    let a = rw c.new-items.ensures.items at c.in_ok-read_root.ensures.law in
    record {
      law = λ ps qs place slot d b each. items_read g.met.D.Decoder.lawful d b c.args.decoder.now each a c.in_ok-read_after.ensures.law;
      ended = items_end g.met.D.Decoder.lawful _ a c.in_ok-read_after.ensures.law;
      kept = λ k. c.read_after.ensures.kept k ∙ c.read_root.ensures.kept k;
    }
