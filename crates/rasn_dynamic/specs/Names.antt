-- Where things with names are in a table of types.
use Rattle.std.specs.Prelude.{ℕ, if◌then◌else◌, nat_eq, List, [], ◌∷◌, Option, Some, None, option_map, slice_get}
use Rattle.std.specs.Prelude.{string_bytes}
use Rattle.std.specs.Cmp.Lexicographic.{pointwise}
use Rattle.rasn_types.specs.Values.{Value}
use Rattle.rasn_schema.specs.declared.items.Place.{Place}
use Rattle.rasn_schema.specs.declared.items.Place.TheVariants.{Root, Added}
use Rattle.rasn_dynamic.specs.declared.types.Component.{Component}
use Rattle.rasn_dynamic.specs.declared.types.Items.{Items}
use Rattle.rasn_dynamic.specs.declared.types.Name.{Name}
use Rattle.rasn_dynamic.specs.declared.types.Record.{Record}
use Rattle.rasn_dynamic.specs.Types.{behind}

-- the place of the first type with a name, where one has it
abbrev pub place_of : List Name → List ℕ → Option ℕ
place_of [] name = None
place_of (n ∷ ns) name = if pointwise nat_eq (string_bytes n.name) name then Some n.place else place_of ns name

-- what stands for the first component with a name, where one has it
abbrev pub slot_named : List Component → List (Option Value) → List ℕ → Option (Option Value)
slot_named [] ss name = None
slot_named (c ∷ cs) [] name = None
slot_named (c ∷ cs) (s ∷ ss) name =
    if pointwise nat_eq (string_bytes c.name) name then Some s else slot_named cs ss name

-- the one that is there, or else the other
abbrev pub or_else : {A : Type 0} → Option A → Option A → Option A
or_else None y = y
or_else (Some x) y = Some x

-- what stands for the first component with a name, or else for the first addition with it
abbrev pub part_named : Record → List (Option Value) → List (Option Value) → List ℕ → Option (Option Value)
part_named r vs ws name = or_else (slot_named r.root.items vs name) (slot_named (behind r.additions) ws name)

-- the name of the item at a place, where one is there
abbrev pub name_at : Items → Place → Option (List ℕ)
name_at i (Root k) = option_map string_bytes (slice_get i.roots.items k)
name_at i (Added k) = option_map string_bytes (slice_get (behind i.addeds) k)
