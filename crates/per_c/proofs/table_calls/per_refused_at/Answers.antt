use Rattle.std.proofs.Common.{Ok}
use Rattle.per_c.proofs.Codes.{unput_by}
use Rattle.per_c.specs.Tables.{IsUnlocated}
use Rattle.per_c.proofs.table_calls.per_refused_at.Goals as goal

pub returns-in-Ok-clause-refused : goal.returns-in-Ok-clause-refused
returns-in-Ok-clause-refused c = λ n. unput_by (λ path. path.items) (λ path. Unit {0}) (IsUnlocated c.args.types.now.handle.table c.args.options) (Ok c.into_bytes.result) _ _ _
    (λ h. h) tt tt (c.put_answer.ensures.refused n)
