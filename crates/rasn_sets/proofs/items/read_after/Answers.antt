use Rattle.std.proofs.Common.{◌≡◌, [], length, map, refl, rules}
use Rattle.rasn_schema.specs.Extensions.{fields_after}
use Rattle.rasn_schema.specs.Fields.{shape_of}
use Rattle.rasn_sets.specs.Components.{GivesItem}
use Rattle.rasn_sets.specs.Turns.{after_end}
use Rattle.rasn_sets.proofs.Loops.{after_taken}
use Rattle.rasn_sets.proofs.items.read_after.Goals as goal

pub returns-in-Some : goal.returns-in-Some
returns-in-Some g c =
    let e : c.len.result ≡ length g.C.Constructed.FIELDS = search rules in
    let h : map shape_of c.fields.inside.list.now ≡ fields_after g.C.Constructed.EXTENDED_FIELDS = search rules in
    record {
      law = after_taken g.D.Decoder.rules (GivesItem g.F.Fn c.args.decode.now) _ _ _ _ _ _ _ h (rw e at c.read_additions.ensures.law);
      kept = c.read_additions.ensures.kept;
    }

pub returns-in-None : goal.returns-in-None
returns-in-None g c =
    let h : map shape_of [] ≡ fields_after g.C.Constructed.EXTENDED_FIELDS = search rules in
    record { law = ([], h, after_end); kept = λ k. refl }
