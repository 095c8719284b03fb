-- What comes next of a record, a list and a choice, and the step to it (X.680 15).
use Rattle.std.specs.Prelude.{ℕ, ◌+◌, ◌^◌, ◌-◌, ◌≡◌, ◌==◌, ◌&&◌, ◌||◌, not, Bool, true, false, nat_lt, min}
use Rattle.std.specs.Prelude.{if◌then◌else◌, List, length, map, count_by, find, slice_get, Option, Some, None}
use Rattle.std.specs.Prelude.{option_map, option_and_then}
use Rattle.std.specs.Borrow.{Bor}
use Rattle.rasn_schema.specs.Choices.{place_of, variant_shape}
use Rattle.rasn_schema.specs.Fields.{Shape, shape_of}
use Rattle.rasn_schema.specs.Schemas.{Tag, tag_less}
use Rattle.rasn_schema.specs.Structures.{tag_of}
use Rattle.rasn_schema.specs.declared.fields.Field.{Field}
use Rattle.rasn_schema.specs.declared.fields.TagTree.{TagTree}
use Rattle.rasn_schema.specs.declared.items.ItemCounts.{ItemCounts}
use Rattle.rasn_schema.specs.declared.items.Place.{Place}
use Rattle.rasn_schema.specs.declared.items.Place.TheVariants.{Root, Added}
use Rattle.per_ways.specs.declared.path.Step.{Step}
use Rattle.per_ways.specs.declared.path.Step.TheVariants.{Named, Element, Placed, Nameless}
use Rattle.per_ways.specs.declared.turns.Alternatives.{Alternatives}
use Rattle.per_ways.specs.declared.turns.Components.{Components}
use Rattle.per_ways.specs.declared.turns.Elements.{Elements}

-- so many, and more, as far as a `usize` goes
abbrev pub count_on : ℕ → ℕ → ℕ
count_on n i = min (n + i) (2 ^ 64 - 1)

-- one more than a count, as far as a `usize` goes
abbrev pub one_more : ℕ → ℕ
one_more n = count_on n 1

-- a place in a choice's root, or else one behind it
abbrev pub behind_root : ℕ → Option ℕ → Option ℕ → Option ℕ
behind_root n (Some i) o = Some i
behind_root n None o = option_map (count_on n) o

-- the step to what has a name, or has none
abbrev pub named : Option (Bor (List ℕ)) → Step
named None = Nameless
named (Some name) = Named name

-- Components of these shapes, of which none was taken.
pub record AreOf (fs : List Shape) (in_tag_order : Bool) (c : Components) : Type 0 where
  pub fields : option_map (λ l. map shape_of l.now) c.fields ≡ Some fs
  pub order : c.in_tag_order ≡ in_tag_order
  pub taken : c.taken ≡ 0

-- the components of a type that is data, of which none was taken
abbrev pub counted : Components
counted = record { fields = None; in_tag_order = false; taken = 0 }

-- X.691 21.1: whether a field stands before another in ascending order of tags; those of one tag stay as listed
abbrev pub is_before : Field → Field → Bool
is_before f g = tag_less (tag_of f.tag) (tag_of g.tag)
    || (not (tag_less (tag_of g.tag) (tag_of f.tag)) && nat_lt f.index g.index)

-- X.691 21.1: the field that has so many before it in ascending order of tags
abbrev pub field_in_order : List Field → ℕ → Option Field
field_in_order fs place = find (λ f. count_by (λ g. is_before g f) fs == place) fs

-- the field at a place of a record's, in the order of a SET or of a SEQUENCE
abbrev pub field_at : Bool → List Field → ℕ → Option Field
field_at true fs place = field_in_order fs place
field_at false fs place = slice_get fs place

-- the step to the component at a place: by its name, and of a type that is data by its place
abbrev pub step_at : Option (Bor (List Field)) → Bool → ℕ → Option Step
step_at None in_tag_order place = Some (Placed place)
step_at (Some fs) in_tag_order place = option_map (λ f. Named f.name) (field_at in_tag_order fs.now place)

-- the step to the next component: by its name, and of a type that is data by its place
abbrev pub next_step : Components → Option Step
next_step c = step_at c.fields c.in_tag_order c.taken

-- components of which one more was taken
abbrev pub one_taken : Components → Components
one_taken c = record c { taken = one_more c.taken }

-- the next element begins
abbrev pub element_begun : Elements → Elements
element_begun es = record { begun = one_more es.begun; is_inside = true }

-- the step to the element that is read or written, by its number from 1 on
abbrev pub element_step : Elements → Option Step
element_step es = if es.is_inside then Some (Element es.begun) else None

-- the place of the alternative that goes by a tag among all of a choice, those after the extension marker last
abbrev pub alternative_place : Tag → List TagTree → List TagTree → Option ℕ
alternative_place t ts us =
    behind_root (length ts) (place_of t (map variant_shape ts)) (place_of t (map variant_shape us))

-- the place of an alternative among all of a choice, those after the extension marker last
abbrev pub overall_place : ItemCounts → Place → ℕ
overall_place n (Root i) = i
overall_place n (Added i) = count_on n.roots i

-- the step to the alternative at a place among all of a choice: by its name, where its type names it
abbrev pub alternative_step : List (Bor (List ℕ)) → Option ℕ → Step
alternative_step names place = named (option_and_then (slice_get names) place)

-- the alternative begins that goes by a tag
abbrev pub alternative_begun : Tag → Alternatives → Alternatives
alternative_begun t c = record c {
  current = Some (alternative_step c.identifiers.now (alternative_place t c.root.now c.added.now));
}
