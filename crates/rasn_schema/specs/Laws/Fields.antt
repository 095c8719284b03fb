-- What holds of a record's fields after its extension marker: they are those of its additions.
use Rattle.std.specs.Prelude.{◌≡◌, List, Option, Some, None, refl}
use Rattle.std.proofs.Common.{subst, sym}
use Rattle.rasn_schema.specs.Components.{Component, TypeLists, added_fields, added_parts, components_after, fields_of}
use Rattle.rasn_schema.specs.Components.{fields_described, has_marker, parts_of}
use Rattle.rasn_schema.specs.Extensions.{Extends}
use Rattle.rasn_schema.specs.Fields.{Shapes}

fields_extend : (xs : Option (List Component))
    → Extends (has_marker xs) (added_fields xs) (parts_of (components_after xs))
fields_extend None = record { described = λ n. refl; marked = λ e n. refl }
fields_extend (Some cs) = record { described = fields_described cs; marked = λ e n. absurd cc }

-- the fields after the marker are those of the additions
pub lists_extend : {fs : Shapes} (cs : TypeLists) → fs ≡ fields_of cs
    → Extends (has_marker cs.behind) fs.behind (added_parts cs)
lists_extend cs e = subst (λ (s : Shapes). Extends (has_marker cs.behind) s.behind (added_parts cs)) (sym e)
    (fields_extend cs.behind)
