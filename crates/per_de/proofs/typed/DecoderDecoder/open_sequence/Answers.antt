use Rattle.std.proofs.Common.{refl}
use Rattle.per_de.proofs.typed.DecoderDecoder.open_sequence.Goals as goal

pub returns : goal.returns
returns g c = c.open_counted.ensures.in_turn g.C.Constructed.parts (λ n. refl) (λ n. refl)
