use Rattle.std.proofs.Common.{sym}
use Rattle.rasn_below.proofs.Writing.{written_around}
use Rattle.per_samples_a.specs.Pairs.{pair_contents}
use Rattle.per_samples_a.proofs.pair.PairEncode.encode_with_tag_and_constraints.Goals as goal

pub returns : goal.returns
returns g c = written_around (pair_contents c.args.self.now.a c.args.self.now.b) 0 c.encode_sequence.ensures (λ x r y w. rw (sym w.shows, sym w.leaves) w.met.0) (record { stays = λ x r y w. rw (sym w.shows, sym w.leaves) w.met.1 })
