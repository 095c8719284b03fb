use Rattle.std.proofs.Common.{rules, ◌≡◌, ◌≢◌, Some, None}
use Rattle.per_c.specs.declared.refusal.Refusal.TheVariants.{NoTypes, UnknownType}
use Rattle.per_c.proofs.HandleContents.{from_none, from_some}
use Rattle.per_c.proofs.table_calls.per_find.Goals as goal

pub returns-in_default-clause-refused : goal.returns-in_default-clause-refused
returns-in_default-clause-refused c = λ n. (NoTypes, from_none c.replace-held.result c.args.types.now c.into_table.result c.replace-held.ensures.value c.into_table.ensures c.in_default.not-Some, c.code.ensures.code)

pub returns-in-None-clause-refused : goal.returns-in-None-clause-refused
returns-in-None-clause-refused c = λ n. (UnknownType, (c.in-Some.table.value, from_some c.replace-held.result c.args.types.now c.into_table.result c.in-Some.table c.replace-held.ensures.value c.into_table.ensures c.in-Some.is, search rules), c.code-in-None.ensures.code)

pub returns-in-Some-found-clause-found : goal.returns-in-Some-found-clause-found
returns-in-Some-found-clause-found c = λ n. record {
  table = c.in-Some.table.value;
  is_held = from_some c.replace-held.result c.args.types.now c.into_table.result c.in-Some.table c.replace-held.ensures.value c.into_table.ensures c.in-Some.is;
  stands = search rules;
}
