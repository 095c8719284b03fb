use Rattle.rasn_per.proofs.ItemCounts.{few}
use Rattle.rasn_per.proofs.counts.decoded_items_are_few.Goals as goal

pub returns : goal.returns
returns g c = λ strict codec constraints octets result h. few codec (g.T.AsnType.schema constraints) g.T.AsnType.value octets strict result h
