use Rattle.per_core.specs.Basic.{front}
use Rattle.per_laws.proofs.Readers.{known_is_read}
use Rattle.per_versions.proofs.Fronts
use Rattle.per_versions.proofs.Laws
use Rattle.per_versions.proofs.remainders.newer_reader_widens_the_front_that_the_older_reads.Goals as goal
use Rattle.rasn_per.specs.Calls.{basically}
use Rattle.rasn_types.specs.Variants.{variant_of}
use Rattle.std.proofs.Common.{subst}

pub returns-clause-answers : goal.returns-clause-answers
returns-clause-answers g c = λ k codec octets rest x answer h d.
    let a = basically (variant_of codec) in
    Fronts.front_answered codec (g.New.AsnType.schema g.New.AsnType.CONSTRAINTS) g.New.AsnType.value octets h.0 rest answer _ d h.1
    (Fronts.widened_front a (g.New.AsnType.schema g.New.AsnType.CONSTRAINTS) (g.Old.AsnType.schema g.Old.AsnType.CONSTRAINTS) (g.New.AsnType.levelled g.New.AsnType.CONSTRAINTS) (g.Old.AsnType.levelled g.Old.AsnType.CONSTRAINTS) k (g.Old.AsnType.value x) h.0 rest h.2)
    (Laws.newer_widens a (g.New.AsnType.schema g.New.AsnType.CONSTRAINTS) (g.Old.AsnType.schema g.Old.AsnType.CONSTRAINTS) (g.New.AsnType.levelled g.New.AsnType.CONSTRAINTS) (g.Old.AsnType.levelled g.Old.AsnType.CONSTRAINTS) k (g.Old.AsnType.value x) h.0 h.2)

pub returns-clause-projects_back : goal.returns-clause-projects_back
returns-clause-projects_back g c = λ k codec octets rest x y h d.
    let a = basically (variant_of codec) in
    let v = g.New.AsnType.value y.0 in
    let r = ((Fronts.widened_front a (g.New.AsnType.schema g.New.AsnType.CONSTRAINTS) (g.Old.AsnType.schema g.Old.AsnType.CONSTRAINTS) (g.New.AsnType.levelled g.New.AsnType.CONSTRAINTS) (g.Old.AsnType.levelled g.Old.AsnType.CONSTRAINTS) k (g.Old.AsnType.value x) h.0 rest h.2) v y.1.now).0 (subst (λ z. front a ((g.New.AsnType.schema g.New.AsnType.CONSTRAINTS) 128) v z y.1.now) h.1 d.ok.are_read) in
    (Laws.older_projects a (g.New.AsnType.schema g.New.AsnType.CONSTRAINTS) (g.Old.AsnType.schema g.Old.AsnType.CONSTRAINTS) (g.New.AsnType.levelled g.New.AsnType.CONSTRAINTS) (g.Old.AsnType.levelled g.Old.AsnType.CONSTRAINTS) k v h.0 r.0 (g.Old.AsnType.value x)).0
    (known_is_read a ((g.Old.AsnType.schema g.Old.AsnType.CONSTRAINTS) 128) (g.Old.AsnType.value x) h.0 h.2)
