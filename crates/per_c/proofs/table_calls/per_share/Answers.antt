use Rattle.std.proofs.Common.{rules, ◌≡◌, ◌≢◌, Some, None}
use Rattle.per_c.specs.declared.refusal.Refusal.TheVariants.{AlreadyLoaded, NoTypes}
use Rattle.per_c.proofs.HandleContents.{from_none, from_some, loaded}
use Rattle.per_c.proofs.table_calls.per_share.Goals as goal

pub returns-then-other-clause-refused : goal.returns-then-other-clause-refused
returns-then-other-clause-refused c = λ n. (AlreadyLoaded, loaded c.args.other.now c.requires.other c.if-other.true, c.code.ensures.code)

pub returns-in_default-clause-refused : goal.returns-in_default-clause-refused
returns-in_default-clause-refused c = λ n. (NoTypes, from_none c.replace-held.result c.args.types.now c.into_table.result c.replace-held.ensures.value c.into_table.ensures c.in_default.not-Some, c.code-in_default.ensures.code)

pub returns-in-Ok-clause-shared : goal.returns-in-Ok-clause-shared
returns-in-Ok-clause-shared c = λ n. (c.in-Some.table.value, c.in-Ok.second.value, from_some c.replace-held.result c.args.types.now c.into_table.result c.in-Some.table c.replace-held.ensures.value c.into_table.ensures c.in-Some.is, c.put-in-Ok.ensures, search rules)
