use Rattle.per_versions.proofs.Relayed
use Rattle.per_versions.proofs.relays.normal_form_is_projected_alike.Goals as goal

pub returns-clause-alike : goal.returns-clause-alike
returns-clause-alike g c = λ l k v w i. Relayed.passed (g.New.AsnType.schema g.New.AsnType.CONSTRAINTS) (g.Old.AsnType.schema g.Old.AsnType.CONSTRAINTS) (g.New.AsnType.levelled g.New.AsnType.CONSTRAINTS) (g.Old.AsnType.levelled g.Old.AsnType.CONSTRAINTS) l.lawful k v w i

pub returns-clause-back : goal.returns-clause-back
returns-clause-back g c = λ l k v u i. Relayed.returned (g.New.AsnType.schema g.New.AsnType.CONSTRAINTS) (g.Old.AsnType.schema g.Old.AsnType.CONSTRAINTS) (g.New.AsnType.levelled g.New.AsnType.CONSTRAINTS) (g.Old.AsnType.levelled g.Old.AsnType.CONSTRAINTS) l.lawful k v u i
