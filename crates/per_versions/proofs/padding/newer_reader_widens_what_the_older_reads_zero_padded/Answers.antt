use Rattle.per_versions.proofs.Laws
use Rattle.per_versions.proofs.Relayed
use Rattle.per_versions.proofs.padding.newer_reader_widens_what_the_older_reads_zero_padded.Goals as goal
use Rattle.rasn_per.specs.Calls.{basically, reading}
use Rattle.rasn_types.specs.Variants.{variant_of}
use Rattle.std.proofs.Common.{true, false}

pub returns : goal.returns
returns g c = λ k codec octets x answer h e.
    let r = Relayed.loosely_known (reading true (variant_of codec)) ((g.Old.AsnType.schema g.Old.AsnType.CONSTRAINTS) 128) (g.Old.AsnType.value x) octets h in
    Laws.answered false codec (g.New.AsnType.schema g.New.AsnType.CONSTRAINTS) g.New.AsnType.value octets answer _ e
    (Laws.newer_widens (basically (variant_of codec)) (g.New.AsnType.schema g.New.AsnType.CONSTRAINTS) (g.Old.AsnType.schema g.Old.AsnType.CONSTRAINTS) (g.New.AsnType.levelled g.New.AsnType.CONSTRAINTS) (g.Old.AsnType.levelled g.Old.AsnType.CONSTRAINTS) k (g.Old.AsnType.value x) octets r)
