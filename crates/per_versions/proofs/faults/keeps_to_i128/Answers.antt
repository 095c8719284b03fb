use Rattle.per_versions.proofs.faults.keeps_to_i128.Goals as goal
use Rattle.per_versions.proofs.Keeps.{type_kept}

pub returns : goal.returns
returns g c =
    let of = g.T.AsnType in type_kept (of.schema of.CONSTRAINTS) (of.levelled of.CONSTRAINTS) c.requires.lawful c.requires.kept
