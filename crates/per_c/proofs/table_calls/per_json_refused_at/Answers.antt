use Rattle.std.proofs.Common.{◌≡◌, Ok, Some, rules, subst}
use Rattle.std.specs.Prelude.{string_bytes}
use Rattle.per_c.proofs.Codes.{put_as, unput_by}
use Rattle.per_c.specs.Tables.{IsPathOf, IsTextFault, IsUntold}
use Rattle.per_c.proofs.table_calls.per_json_refused_at.Goals as goal

pub returns-in-Ok-Some-clause-refused : goal.returns-in-Ok-Some-clause-refused
returns-in-Ok-Some-clause-refused c = λ n.
    let e : c.in-Ok-Some.field-0 ≡ Some c.in-Ok-Some.fault = search rules in
    unput_by (λ path. path.items) (IsPathOf c.args.types.now.handle.table c.args.place c.args.text.now) (IsUntold c.args.types.now.handle.table)
    (Ok c.into_bytes.result) _ _ _ (λ h. h)
    (Some c.in-Ok-Some.fault, subst (IsTextFault c.args.types.now.handle.table c.args.place c.args.text.now) e c.in-Ok-Some.ensures.ok, search rules) tt
    (c.put_answer.ensures.refused n)

pub returns-in-Ok-Some-clause-put : goal.returns-in-Ok-Some-clause-put
returns-in-Ok-Some-clause-put c = λ z.
    let e : c.in-Ok-Some.field-0 ≡ Some c.in-Ok-Some.fault = search rules in
    record {
      fault = Some c.in-Ok-Some.fault;
      is_fault = subst (IsTextFault c.args.types.now.handle.table c.args.place c.args.text.now) e c.in-Ok-Some.ensures.ok;
      is_put = put_as (λ path. path.items) (λ path. path ≡ string_bytes c.in-Ok-Some.fault.path) (Ok c.into_bytes.result) _ _ _ (search rules) (c.put_answer.ensures.answered z);
      is_octet = search rules;
    }
