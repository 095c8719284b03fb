use Rattle.per_versions.proofs.Fronts
use Rattle.per_versions.proofs.Laws
use Rattle.per_versions.proofs.remainders.few_levels_are_read_back_in_front.Goals as goal
use Rattle.rasn_per.specs.Calls.{basically}
use Rattle.rasn_types.specs.Variants.{variant_of}
use Rattle.std.proofs.Common.{refl}

pub returns : goal.returns
returns g c = λ codec x octets rest answer h l d.
    let a = basically (variant_of codec) in
    Fronts.front_answered codec (g.T.AsnType.schema g.T.AsnType.CONSTRAINTS) g.T.AsnType.value _ octets rest answer _ d refl
    (Fronts.own_front a (g.T.AsnType.schema g.T.AsnType.CONSTRAINTS) (g.T.AsnType.levelled g.T.AsnType.CONSTRAINTS) (g.T.AsnType.levels x) (g.T.AsnType.value x) octets rest h)
    (Laws.few_read_back a (g.T.AsnType.schema g.T.AsnType.CONSTRAINTS) (g.T.AsnType.levelled g.T.AsnType.CONSTRAINTS) (g.T.AsnType.levels x) (g.T.AsnType.value x) octets h l)
