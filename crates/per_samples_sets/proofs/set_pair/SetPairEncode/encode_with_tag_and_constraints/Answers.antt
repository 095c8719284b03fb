use Rattle.std.proofs.Common.{refl, sym}
use Rattle.per_samples_sets.specs.SetPairs.{set_pair_contents}
use Rattle.rasn_below.proofs.Writing.{set_around}
use Rattle.per_samples_sets.proofs.set_pair.SetPairEncode.encode_with_tag_and_constraints.Goals as goal

pub returns : goal.returns
returns g c = set_around (set_pair_contents c.args.self.now.b c.args.self.now.a) 0 (λ n. refl) c.encode_set.ensures
    (λ x r y w. rw (sym w.shows, sym w.leaves) w.met.0) (record { stays = λ x r y w. rw (sym w.shows, sym w.leaves) w.met.1 })
