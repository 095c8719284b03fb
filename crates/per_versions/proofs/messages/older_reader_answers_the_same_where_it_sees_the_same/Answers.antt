use Rattle.per_versions.proofs.Fronts
use Rattle.per_versions.proofs.Laws
use Rattle.per_versions.proofs.messages.older_reader_answers_the_same_where_it_sees_the_same.Goals as goal
use Rattle.rasn_per.specs.Calls.{reading}
use Rattle.rasn_types.specs.Variants.{variant_of}

pub returns : goal.returns
returns g c = λ k strict codec x y z octets others answer d e i f h.
    let newer = g.New.AsnType.schema g.New.AsnType.CONSTRAINTS in
    let older = g.Old.AsnType.schema g.Old.AsnType.CONSTRAINTS in
    let n = g.New.AsnType.levelled g.New.AsnType.CONSTRAINTS in
    let o = g.Old.AsnType.levelled g.Old.AsnType.CONSTRAINTS in
    let a = reading strict (variant_of codec) in
    let w = g.Old.AsnType.value z in
    let p = (Laws.older_projects a newer older n o k (g.New.AsnType.value x) octets d.ok.are_read w).0 f.ok.are_read in
    let r = (Laws.older_projects a newer older n o k (g.New.AsnType.value y) others e.ok.are_read w).1 ((i w).0 p) in
    Laws.answered strict codec older g.Old.AsnType.value others answer _ h (Fronts.only_read a older w others r)
