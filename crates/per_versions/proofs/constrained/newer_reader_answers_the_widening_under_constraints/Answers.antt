use Rattle.per_versions.proofs.Laws
use Rattle.per_versions.proofs.constrained.newer_reader_answers_the_widening_under_constraints.Goals as goal
use Rattle.rasn_per.specs.Calls.{reading}
use Rattle.rasn_types.specs.Variants.{variant_of}

pub returns : goal.returns
returns g c = λ q r k strict codec x octets answer h d. Laws.answered strict codec (g.New.AsnType.schema q) g.New.AsnType.value octets answer _ d
    (Laws.newer_reads (reading strict (variant_of codec)) (g.New.AsnType.schema q) (g.Old.AsnType.schema r) (g.New.AsnType.levelled q) (g.Old.AsnType.levelled r) k (g.Old.AsnType.levels x) (g.Old.AsnType.value x) octets h)
