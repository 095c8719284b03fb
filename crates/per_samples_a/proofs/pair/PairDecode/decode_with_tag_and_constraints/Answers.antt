use Rattle.std.proofs.Common.{rules}
use Rattle.rasn_below.proofs.Reading.{read_around}
use Rattle.per_samples_a.proofs.pair.PairDecode.decode_with_tag_and_constraints.Goals as goal

pub returns : goal.returns
returns g c = read_around g.met.D.Decoder.lawful c.decode_sequence.ensures (λ s r t w. search rules) (record { stays = λ s r t w. search rules })
