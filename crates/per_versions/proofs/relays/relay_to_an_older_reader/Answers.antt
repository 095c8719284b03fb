use Rattle.per_versions.proofs.Faulted
use Rattle.per_versions.proofs.Laws
use Rattle.per_versions.proofs.Relayed
use Rattle.per_versions.proofs.relays.relay_to_an_older_reader.Goals as goal
use Rattle.rasn_per.specs.Calls.{reading}
use Rattle.rasn_types.specs.Variants.{variant_of}

pub returns : goal.returns
returns g c = λ l i k strict again codec other x octets written answer d e.
    let newer = g.New.AsnType.schema g.New.AsnType.CONSTRAINTS in
    let older = g.Old.AsnType.schema g.Old.AsnType.CONSTRAINTS in
    let n = g.New.AsnType.levelled g.New.AsnType.CONSTRAINTS in
    let o = g.Old.AsnType.levelled g.Old.AsnType.CONSTRAINTS in
    let a = reading strict (variant_of codec) in
    let v = g.New.AsnType.value x in
    Faulted.passes other newer (g.New.AsnType.levels x) v _ written e (λ others h f. Laws.answered again other older g.Old.AsnType.value others answer _ f
    (Relayed.older_relayed a (reading again (variant_of other)) newer older n o l.lawful k (g.New.AsnType.levels x) v octets others d.ok.are_read h)) (Faulted.no_refusal newer n l a v octets d.ok.are_read other i (g.New.AsnType.levels x) written e)
