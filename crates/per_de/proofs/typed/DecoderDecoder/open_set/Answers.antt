use Rattle.rasn_schema.specs.Orders.{canonised_at}
use Rattle.rasn_schema.proofs.Canonised.{bits_ordered, count_ordered}
use Rattle.per_de.proofs.typed.DecoderDecoder.open_set.Goals as goal

pub returns : goal.returns
returns g c = c.open_counted.ensures.in_turn (canonised_at g.C.Constructed.parts) (λ n. bits_ordered (g.C.Constructed.parts n)) (λ n. count_ordered (g.C.Constructed.parts n))
