use Rattle.per_versions.proofs.Fronts
use Rattle.per_versions.proofs.remainders.what_is_decoded_is_decoded_in_front.Goals as goal
use Rattle.rasn_per.specs.Calls.{basically}
use Rattle.rasn_types.specs.Variants.{variant_of}
use Rattle.std.proofs.Common.{refl}

pub returns : goal.returns
returns g c = λ codec octets rest x answer d e.
    let a = basically (variant_of codec) in
    Fronts.front_answered codec (g.T.AsnType.schema g.T.AsnType.CONSTRAINTS) g.T.AsnType.value _ octets rest answer _ e refl (Fronts.read_front a (g.T.AsnType.schema g.T.AsnType.CONSTRAINTS) (g.T.AsnType.value x) octets rest d.ok.are_read)
    (Fronts.only_read a (g.T.AsnType.schema g.T.AsnType.CONSTRAINTS) (g.T.AsnType.value x) octets d.ok.are_read)
