use Rattle.std.proofs.Common.{refl, subst}
use Rattle.rasn_schema.specs.Schemas.{count}
use Rattle.per_core.specs.Basic.{ExtensionBit}
use Rattle.per_core.specs.Spellings.{Took}
use Rattle.per_core.proofs.TakenInTurn.{then_took}
use Rattle.per_decoding.proofs.Scoping.Records.{flags_bits}
use Rattle.per_decoding.specs.Scopes.{outside_record}
use Rattle.per_decoding.proofs.Scoping.Scopes.{took_record}
use Rattle.per_decoding.specs.State.{State, settings_of}
use Rattle.per_core.specs.AdditionFaults.{extension_of}
use Rattle.per_decoding.proofs.laws.record_can_be_opened.Goals as goal

pub returns : goal.returns
returns c = λ ps qs marker s t v n e b.
    let q = took_record (settings_of s) ps marker qs v s.bits t.bits b.took in
    let f = then_took (record { front = q.root.front; joins = q.root.joins; spelled = q.root.spelled.spelled }) in
    let z = flags_bits (settings_of s) ps q.root.spelled.shown q.middle f.0 f.1 in
    let i : State = record s { bits = f.0; levels = n; presences = z.0; extension = extension_of q.extends; expected = count qs } in (
      outside_record s,
      i,
      record {
        live = b.live;
        deeper = e;
        extends = q.extends;
        taken = subst (λ y. Took (ExtensionBit marker q.extends) s.bits y) z.1 q.bit;
        presence_count = z.2;
        shows = refl;
        counts = refl;
        enters = record { waits = refl; same = refl };
      },
    )
