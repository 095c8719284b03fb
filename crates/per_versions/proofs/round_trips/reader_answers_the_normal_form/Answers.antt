use Rattle.per_versions.proofs.Laws
use Rattle.per_versions.proofs.round_trips.reader_answers_the_normal_form.Goals as goal
use Rattle.rasn_per.specs.Calls.{reading}
use Rattle.rasn_types.specs.Variants.{variant_of}

pub returns : goal.returns
returns g c = λ strict codec x octets answer h d. Laws.answered strict codec (g.T.AsnType.schema g.T.AsnType.CONSTRAINTS) g.T.AsnType.value octets answer _ d
    (Laws.own_reads (reading strict (variant_of codec)) (g.T.AsnType.schema g.T.AsnType.CONSTRAINTS) (g.T.AsnType.levelled g.T.AsnType.CONSTRAINTS) (g.T.AsnType.levels x) (g.T.AsnType.value x) octets h)
