use Rattle.per_core.specs.Basic.{front}
use Rattle.per_versions.proofs.Fronts
use Rattle.per_versions.proofs.Laws
use Rattle.per_versions.proofs.remainders.what_is_decoded_in_front_is_decoded.Goals as goal
use Rattle.rasn_per.specs.Calls.{basically}
use Rattle.rasn_types.specs.Variants.{variant_of}
use Rattle.std.proofs.Common.{subst, false}
use Rattle.std.specs.Prelude.{◌++◌}

pub returns : goal.returns
returns g c = λ codec octets rest x answer d e f.
    let a = basically (variant_of codec) in
    let y = subst (λ z. front a ((g.T.AsnType.schema g.T.AsnType.CONSTRAINTS) 128) (g.T.AsnType.value x.0) (octets ++ rest) z) e d.ok.are_read in
    Laws.answered false codec (g.T.AsnType.schema g.T.AsnType.CONSTRAINTS) g.T.AsnType.value octets answer _ f (Fronts.read_alone a (g.T.AsnType.schema g.T.AsnType.CONSTRAINTS) (g.T.AsnType.value x.0) octets rest y)
