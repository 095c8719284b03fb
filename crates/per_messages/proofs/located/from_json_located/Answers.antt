use Rattle.std.proofs.Common.{subst, List}
use Rattle.std.specs.Prelude.{IfErr}
use Rattle.json.specs.Value.{value_view}
use Rattle.rasn_dynamic.specs.declared.types.Kind.{Kind}
use Rattle.per_messages.specs.Paths.{IsPlaced}
use Rattle.per_messages.proofs.Paths.{fault_placed, fault_told, ToldOr}
use Rattle.per_messages.proofs.located.from_json_located.Goals as goal

pub returns-in-Ok-clause-refused : goal.returns-in-Ok-clause-refused
returns-in-Ok-clause-refused c =
    let j = value_view c.in-Ok.json in
    fault_told c.args.types.now.kinds.items c.args.place c.args.text.now j c.read_whole.result c.in-Ok.ensures
    (subst (λ (ks : List Kind). ToldOr ks c.args.place j c.read_whole.result) c.deref.ensures.value c.read_whole.ensures.told)

pub returns-in-Ok-clause-located : goal.returns-in-Ok-clause-located
returns-in-Ok-clause-located c =
    let j = value_view c.in-Ok.json in
    fault_placed c.args.types.now.kinds.items c.args.place c.args.text.now j c.read_whole.result c.in-Ok.ensures
    (subst (λ (ks : List Kind). IfErr c.read_whole.result (IsPlaced ks c.args.place j)) c.deref.ensures.value c.read_whole.ensures.located)
