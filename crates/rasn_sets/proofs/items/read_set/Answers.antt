use Rattle.std.proofs.Common.{refl}
use Rattle.std.proofs.lemmas.Result.{err_from_is_err_and}
use Rattle.rasn_sets.specs.Components.{GivesSet}
use Rattle.rasn_sets.proofs.Ends.{made_ends}
use Rattle.rasn_sets.proofs.SetsMade.{set_made}
use Rattle.rasn_sets.proofs.items.read_set.Goals as goal

pub returns-in_err-items : goal.returns-in_err-items
returns-in_err-items g c =
    let p = err_from_is_err_and c.from_residual.result c.from_residual.ensures.1 in
    record { law = λ ps qs place slot d b each made. rw (p.1, p.2) (c.in_err-items.ensures.law ps qs place slot d b each); ended = rw p.1 tt; kept = c.read_items.ensures.kept }

pub returns : goal.returns
returns g c = record {
  law = λ ps qs place slot d b each made. set_made g.met.D.Decoder.lawful d b c.args.decoder.now each made _ _ _ (c.in_ok-items.ensures.law ps qs place slot d b each)
      (record { taken = _; holds = refl; met = c.make.ensures });
  ended = made_ends g.met.D.Decoder.lawful (GivesSet g.G.FnOnce (λ xs. xs.items) c.args.make) _ _ _ (record { taken = _; holds = refl; met = c.make.ensures }) c.in_ok-items.ensures.ended;
  kept = c.read_items.ensures.kept;
}
