use Rattle.rasn_per.proofs.ItemCounts.{few_in_front}
use Rattle.rasn_per.proofs.counts.decoded_items_in_front_are_few.Goals as goal

pub returns : goal.returns
returns g c = λ codec octets result h. few_in_front codec (g.T.AsnType.schema g.T.AsnType.CONSTRAINTS) g.T.AsnType.value octets result h
