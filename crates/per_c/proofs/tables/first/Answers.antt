use Rattle.std.proofs.Common.{rules, ◌≡◌, ◌∙◌, ap, subst, List, ℕ, Some, None}
use Rattle.std.specs.Arc.{arc_value}
use Rattle.rasn_dynamic.specs.declared.types.Types.{Types}
use Rattle.per_c.specs.Tables.{IsRefusal}
use Rattle.per_messages.specs.Messages.{AreWithoutFirst, IsFirst}
use Rattle.per_c.specs.declared.handle.Table.{Table}
use Rattle.per_c.proofs.HandleContents.{from_some, ok_as, turned_down}
use Rattle.per_c.proofs.tables.first.Goals as goal

pub returns-clause-ok : goal.returns-clause-ok
returns-clause-ok c =
    ok_as c.first_by-found.result
    (λ a h. record {
      table = c.in-Some.table.value;
      codec = c.in_ok-codec.codec;
      is_held = from_some c.replace-held.result c.args.types.now c.into_table.result c.in-Some.table c.replace-held.ensures.value c.into_table.ensures c.in-Some.is;
      options_are = search rules;
      is_so = subst (λ (ts : Types). IsFirst ts c.in_ok-codec.codec c.args.place c.args.octets.now a)
          (c.deref-2.ensures ∙ ap (λ (t : Table). arc_value t.types) c.deref.ensures) h;
    })
    c.first_by-found.ensures.ok

pub returns-clause-err : goal.returns-clause-err
returns-clause-err c =
    turned_down c.args.types.now.handle.table c.args.options (λ ts codec. AreWithoutFirst ts codec c.args.place c.args.octets.now) c.deref-2.result.now c.in_ok-codec.codec c.first_by-found.result
    c.first_by-found.ensures.err
    (λ e h. record {
      table = c.in-Some.table.value;
      codec = c.in_ok-codec.codec;
      is_held = from_some c.replace-held.result c.args.types.now c.into_table.result c.in-Some.table c.replace-held.ensures.value c.into_table.ensures c.in-Some.is;
      options_are = search rules;
      is_so = subst (λ (ts : Types). IsRefusal (AreWithoutFirst ts c.in_ok-codec.codec c.args.place c.args.octets.now) e)
          (c.deref-2.ensures ∙ ap (λ (t : Table). arc_value t.types) c.deref.ensures) h;
    })
