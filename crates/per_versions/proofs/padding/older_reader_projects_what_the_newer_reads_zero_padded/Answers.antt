use Rattle.per_laws.proofs.Loosen.{strict_is_loose}
use Rattle.per_versions.proofs.Laws
use Rattle.per_versions.proofs.padding.older_reader_projects_what_the_newer_reads_zero_padded.Goals as goal
use Rattle.rasn_per.specs.Calls.{basically, reading}
use Rattle.rasn_types.specs.Variants.{variant_of}
use Rattle.std.proofs.Common.{true, false}

pub returns : goal.returns
returns g c = λ k codec octets x answer d e.
    let r = strict_is_loose (reading true (variant_of codec)) ((g.New.AsnType.schema g.New.AsnType.CONSTRAINTS) 128) (g.New.AsnType.value x) octets d.ok.are_read in
    Laws.answered false codec (g.Old.AsnType.schema g.Old.AsnType.CONSTRAINTS) g.Old.AsnType.value octets answer _ e
    (Laws.older_projects (basically (variant_of codec)) (g.New.AsnType.schema g.New.AsnType.CONSTRAINTS) (g.Old.AsnType.schema g.Old.AsnType.CONSTRAINTS) (g.New.AsnType.levelled g.New.AsnType.CONSTRAINTS) (g.Old.AsnType.levelled g.Old.AsnType.CONSTRAINTS) k (g.New.AsnType.value x) octets r)
