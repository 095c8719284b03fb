use Rattle.std.proofs.Common.{rules, ◌≡◌, ◌∙◌, ap, subst, Some, None}
use Rattle.std.specs.Arc.{arc_value}
use Rattle.rasn_dynamic.specs.declared.types.Types.{Types}
use Rattle.per_c.specs.Tables.{IsTextFaultBy}
use Rattle.per_c.specs.declared.handle.Table.{Table}
use Rattle.per_c.proofs.HandleContents.{from_some}
use Rattle.per_c.proofs.tables.text_fault.Goals as goal

pub returns-in-Ok-clause-ok : goal.returns-in-Ok-clause-ok
returns-in-Ok-clause-ok c = record {
  table = c.in-Some.table.value;
  is_held = from_some c.replace-held.result c.args.types.now c.into_table.result c.in-Some.table c.replace-held.ensures.value c.into_table.ensures c.in-Some.is;
  is_fault = subst (λ (ts : Types). IsTextFaultBy ts c.args.place c.args.text.now None) (c.deref-2.ensures ∙ ap (λ (t : Table). arc_value t.types) c.deref.ensures)
      (c.in-Ok.field-0, c.in-Ok.ensures.read);
}

pub returns : goal.returns
returns c = record {
  same = search rules;
  ok = record {
    table = c.in-Some.table.value;
    is_held = from_some c.replace-held.result c.args.types.now c.into_table.result c.in-Some.table c.replace-held.ensures.value c.into_table.ensures c.in-Some.is;
    is_fault = subst (λ (ts : Types). IsTextFaultBy ts c.args.place c.args.text.now (Some c.in-Err.fault)) (c.deref-2.ensures ∙ ap (λ (t : Table). arc_value t.types) c.deref.ensures)
        (c.in-Err.ensures.located, c.in-Err.ensures.within);
  };
  err = tt;
}
