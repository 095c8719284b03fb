use Rattle.per_laws.proofs.computed.is_newer_version.Goals as goal
use Rattle.per_laws.proofs.Judged.{judged_type}
use Rattle.per_laws.proofs.Shallower.{compared_is_newer}

pub returns : goal.returns
returns g c =
    let newer = g.New.AsnType.schema g.New.AsnType.CONSTRAINTS in
    let older = g.Old.AsnType.schema g.Old.AsnType.CONSTRAINTS in
    let levelled = g.Old.AsnType.levelled g.Old.AsnType.CONSTRAINTS in
    compared_is_newer newer older (g.New.AsnType.levelled g.New.AsnType.CONSTRAINTS) levelled (judged_type older levelled c.requires.lawful) c.requires.allowed
