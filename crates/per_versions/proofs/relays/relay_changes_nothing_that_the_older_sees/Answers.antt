use Rattle.per_versions.proofs.Laws
use Rattle.per_versions.proofs.Relayed
use Rattle.per_versions.proofs.relays.relay_changes_nothing_that_the_older_sees.Goals as goal
use Rattle.rasn_per.specs.Calls.{reading}
use Rattle.rasn_types.specs.Variants.{variant_of}

pub returns-clause-answers : goal.returns-clause-answers
returns-clause-answers g c = λ l m k strict again codec other x y octets others answer d e h f.
    let a = reading strict (variant_of codec) in
    let b = reading again (variant_of other) in
    let v = g.New.AsnType.value x in
    let w = g.Old.AsnType.value y in
    let i = (Laws.older_projects a (g.New.AsnType.schema g.New.AsnType.CONSTRAINTS) (g.Old.AsnType.schema g.Old.AsnType.CONSTRAINTS) (g.New.AsnType.levelled g.New.AsnType.CONSTRAINTS) (g.Old.AsnType.levelled g.Old.AsnType.CONSTRAINTS) k v octets d.ok.are_read w).0 e.ok.are_read in
    let r = Relayed.older_relayed a b (g.New.AsnType.schema g.New.AsnType.CONSTRAINTS) (g.Old.AsnType.schema g.Old.AsnType.CONSTRAINTS) (g.New.AsnType.levelled g.New.AsnType.CONSTRAINTS) (g.Old.AsnType.levelled g.Old.AsnType.CONSTRAINTS) l.lawful k (g.New.AsnType.levels x) v octets others d.ok.are_read h in
    let p = Relayed.passed (g.New.AsnType.schema g.New.AsnType.CONSTRAINTS) (g.Old.AsnType.schema g.Old.AsnType.CONSTRAINTS) (g.New.AsnType.levelled g.New.AsnType.CONSTRAINTS) (g.Old.AsnType.levelled g.Old.AsnType.CONSTRAINTS) m.lawful k v w i in
    Relayed.one_of again other (g.Old.AsnType.schema g.Old.AsnType.CONSTRAINTS) g.Old.AsnType.value others answer _ p.0 f ((r p.0).1 p.1) (λ u j. Relayed.passed_alike (g.New.AsnType.schema g.New.AsnType.CONSTRAINTS) (g.Old.AsnType.schema g.Old.AsnType.CONSTRAINTS) (g.New.AsnType.levelled g.New.AsnType.CONSTRAINTS) (g.Old.AsnType.levelled g.Old.AsnType.CONSTRAINTS) m.lawful k v w i u ((r u).0 j))

pub returns-clause-refuses : goal.returns-clause-refuses
returns-clause-refuses g c = λ l m k strict again codec other x y octets others err far d e h f.
    let a = reading strict (variant_of codec) in
    let b = reading again (variant_of other) in
    let v = g.New.AsnType.value x in
    let i = (Relayed.older_relayed a b (g.New.AsnType.schema g.New.AsnType.CONSTRAINTS) (g.Old.AsnType.schema g.Old.AsnType.CONSTRAINTS) (g.New.AsnType.levelled g.New.AsnType.CONSTRAINTS) (g.Old.AsnType.levelled g.Old.AsnType.CONSTRAINTS) l.lawful k (g.New.AsnType.levels x) v octets others d.ok.are_read h (g.Old.AsnType.value y)).0 f.ok.are_read in
    let q = Relayed.returned (g.New.AsnType.schema g.New.AsnType.CONSTRAINTS) (g.Old.AsnType.schema g.Old.AsnType.CONSTRAINTS) (g.New.AsnType.levelled g.New.AsnType.CONSTRAINTS) (g.Old.AsnType.levelled g.Old.AsnType.CONSTRAINTS) m.lawful k v (g.Old.AsnType.value y) i in
    e.err far q.0 ((Laws.older_projects a (g.New.AsnType.schema g.New.AsnType.CONSTRAINTS) (g.Old.AsnType.schema g.Old.AsnType.CONSTRAINTS) (g.New.AsnType.levelled g.New.AsnType.CONSTRAINTS) (g.Old.AsnType.levelled g.Old.AsnType.CONSTRAINTS) k v octets d.ok.are_read q.0).1 q.1)
