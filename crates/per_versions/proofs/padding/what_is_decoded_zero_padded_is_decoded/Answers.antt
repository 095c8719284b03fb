use Rattle.per_laws.proofs.Loosen.{strict_is_loose}
use Rattle.per_versions.proofs.Fronts
use Rattle.per_versions.proofs.Laws
use Rattle.per_versions.proofs.Relayed
use Rattle.per_versions.proofs.padding.what_is_decoded_zero_padded_is_decoded.Goals as goal
use Rattle.rasn_per.specs.Calls.{basically, reading}
use Rattle.rasn_types.specs.Variants.{variant_of}
use Rattle.std.proofs.Common.{true, false}

pub returns-clause-answers : goal.returns-clause-answers
returns-clause-answers g c = λ codec octets x answer d e.
    let r = strict_is_loose (reading true (variant_of codec)) ((g.T.AsnType.schema g.T.AsnType.CONSTRAINTS) 128) (g.T.AsnType.value x) octets d.ok.are_read in
    Laws.answered false codec (g.T.AsnType.schema g.T.AsnType.CONSTRAINTS) g.T.AsnType.value octets answer _ e (Fronts.only_read (basically (variant_of codec)) (g.T.AsnType.schema g.T.AsnType.CONSTRAINTS) (g.T.AsnType.value x) octets r)

pub returns-clause-refuses : goal.returns-clause-refuses
returns-clause-refuses g c = λ codec octets x e m d f.
    d.err m (g.T.AsnType.value x) (strict_is_loose (reading true (variant_of codec)) ((g.T.AsnType.schema g.T.AsnType.CONSTRAINTS) 128) (g.T.AsnType.value x) octets f.ok.are_read)

pub returns-clause-known : goal.returns-clause-known
returns-clause-known g c = λ codec octets x. Relayed.loosely_known (reading true (variant_of codec)) ((g.T.AsnType.schema g.T.AsnType.CONSTRAINTS) 128) (g.T.AsnType.value x) octets
