use Rattle.per_versions.proofs.Fronts
use Rattle.per_versions.proofs.Laws
use Rattle.per_versions.proofs.remainders.few_levels_are_projected_in_front.Goals as goal
use Rattle.rasn_per.specs.Calls.{basically}
use Rattle.rasn_types.specs.Variants.{variant_of}
use Rattle.std.proofs.Common.{refl}

pub returns : goal.returns
returns g c = λ k codec x octets rest answer h l d.
    let a = basically (variant_of codec) in
    Fronts.front_answered codec (g.Old.AsnType.schema g.Old.AsnType.CONSTRAINTS) g.Old.AsnType.value _ octets rest answer _ d refl
    (Fronts.older_front a (g.New.AsnType.schema g.New.AsnType.CONSTRAINTS) (g.Old.AsnType.schema g.Old.AsnType.CONSTRAINTS) (g.New.AsnType.levelled g.New.AsnType.CONSTRAINTS) (g.Old.AsnType.levelled g.Old.AsnType.CONSTRAINTS) k (g.New.AsnType.levels x) (g.New.AsnType.value x) octets rest h)
    (Laws.few_projected a (g.New.AsnType.schema g.New.AsnType.CONSTRAINTS) (g.Old.AsnType.schema g.Old.AsnType.CONSTRAINTS) (g.New.AsnType.levelled g.New.AsnType.CONSTRAINTS) (g.Old.AsnType.levelled g.Old.AsnType.CONSTRAINTS) k (g.New.AsnType.levels x) (g.New.AsnType.value x) octets h l)
