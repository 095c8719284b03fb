-- The components of a record, and the words in which a schema's author lists them:
-- `automatic (integer u8 (0 to 255) ∷ ia5_string (size 1 to 16) ∷ [])`.
use Rattle.std.specs.Prelude.{◌≡◌, ℕ, zero, suc, ℤ, pos, neg_ℤ, Bool, true, false, List, [], ◌∷◌, length, Option}
use Rattle.std.specs.Prelude.{Some, None, refl}
use Rattle.rasn_types.specs.Alphabets.{visible, ia5, printable, numeric, bmp}
use Rattle.rasn_types.specs.Contents.{utf8}
use Rattle.rasn_types.specs.Values.{Value, alternative, Side, root, added}
use Rattle.rasn_constraints.specs.Bounds.{Bounds, between, unbounded}
use Rattle.rasn_constraints.specs.Ranges.{no_constraints, within, signed_range, unsigned_range, i128_range}
use Rattle.rasn_constraints.specs.declared.constraints.Bounded.TheVariants.{Range}
use Rattle.rasn_constraints.specs.declared.constraints.Constraints.{Constraints}
use Rattle.rasn_constraints.specs.declared.constraints.Extensible.{Extensible}
use Rattle.rasn_schema.specs.Schemas
use Rattle.rasn_schema.specs.Schemas.{Schema, TagTree, TagTrees, leaf, one_of, no_trees, tree, Presence, Parts}
use Rattle.rasn_schema.specs.Schemas.{no_parts, part, listed}
use Rattle.rasn_schema.specs.Choices.{VariantShape, VariantShapes, choice_at, choice_levelled, trees_in}
use Rattle.rasn_schema.specs.Choices.{variants_after, variants_of}
use Rattle.rasn_schema.specs.Fields.{Shape, Shapes, presence_of, shapes_from}
use Rattle.rasn_schema.specs.Structures.{field_tag, record_value}
use Rattle.rasn_schema.specs.Forms.{number_schema, octet_schema, bit_schema, named_bit_schema, character_schema}
use Rattle.rasn_schema.specs.Forms.{size_of, is_size_marked, always}
use Rattle.rasn_schema.specs.Levels.{TakesNone, Levelled, LevelledParts, simple_levelled, parts_levelled, part_levelled}
use Rattle.rasn_schema.specs.Levels.{record_levelled}
use Rattle.rasn_schema.specs.Lists.{list_at, list_fits, list_levelled}
use Rattle.rasn_schema.specs.Records.{record_at}
use Rattle.rasn_schema.specs.Tags.{IsTreeAt, may_be_whole, sequence_fits}

-- a component of a record: its tags, whether it may be absent, and its schema to each number of levels, of which the
-- tags are
pub record Component : Type 0 where
  pub tags : TagTree
  pub presence : Presence
  pub schema : ℕ → Schema
  pub levelled : Levelled schema
  pub fits : IsTreeAt tags schema

-- the components of a record, to a number of levels
abbrev pub parts_of : List Component → ℕ → Parts
parts_of [] n = no_parts
parts_of (c ∷ cs) n = part c.tags c.presence (c.schema n) (parts_of cs n)

-- X.680 25.1, 29.1: the components of a record, or the alternatives of a choice, as a type lists them: those before its
-- extension marker, and those after it, where it has one
pub record TypeLists : Type 0 where
  pub before : List Component
  pub behind : Option (List Component)

-- the components after an extension marker, where there is one
abbrev pub components_after : Option (List Component) → List Component
components_after None = []
components_after (Some cs) = cs

-- whether there is a marker
abbrev pub has_marker : Option (List Component) → Bool
has_marker None = false
has_marker (Some cs) = true

-- the root components, to a number of levels
abbrev pub root_parts : TypeLists → ℕ → Parts
root_parts cs = parts_of cs.before

-- the additions, to a number of levels
abbrev pub added_parts : TypeLists → ℕ → Parts
added_parts cs = parts_of (components_after cs.behind)

-- a SEQUENCE of these components, to a number of levels
abbrev pub sequence_at : TypeLists → ℕ → Schema
sequence_at cs = record_at listed (root_parts cs) (has_marker cs.behind) (added_parts cs)

-- what a SEQUENCE without additions is, of what its components are
abbrev pub sequence_value : List (Option Value) → Value
sequence_value rs = record_value rs []

pub components_levelled : (cs : List Component) → LevelledParts (parts_of cs)
components_levelled [] = parts_levelled
components_levelled (c ∷ cs) = part_levelled c.levelled (components_levelled cs)

pub sequence_levelled : (cs : TypeLists) → Levelled (sequence_at cs)
sequence_levelled cs = record_levelled (components_levelled cs.before)
    (components_levelled (components_after cs.behind))

-- the fields of components, in order, counted from a number
abbrev pub fields_from : ℕ → List Component → List Shape
fields_from i [] = []
fields_from i (c ∷ cs) = record {
  index = i;
  tag = field_tag c.tags;
  tree = Some c.tags;
  presence =
      presence_of c.presence;
} ∷ fields_from (suc i) cs

-- the fields of components, in order
abbrev pub fields_in : List Component → List Shape
fields_in cs = fields_from 0 cs

-- the fields after an extension marker, where there is one
abbrev pub added_fields : Option (List Component) → Option (List Shape)
added_fields None = None
added_fields (Some cs) = Some (fields_in cs)

-- the fields of a record's components
abbrev pub fields_of : TypeLists → Shapes
fields_of cs = record { before = fields_in cs.before; behind = added_fields cs.behind }

fields_from_parts : (i : ℕ) (cs : List Component) (n : ℕ) → fields_from i cs ≡ shapes_from i (parts_of cs n)
fields_from_parts i [] n = refl
fields_from_parts i (c ∷ cs) n =
    λ j. record { index = i; tag = field_tag c.tags; tree = Some c.tags; presence = presence_of c.presence }
    ∷ fields_from_parts (suc i) cs n j

-- the fields are those of the components at each number of levels
pub fields_described : (cs : List Component) (n : ℕ) → fields_in cs ≡ shapes_from 0 (parts_of cs n)
fields_described cs n = fields_from_parts 0 cs n

-- What is at a place, from 0.
abbrev pub tags_at : List Component → ℕ → Option TagTree
tags_at [] i = None
tags_at (c ∷ cs) zero = Some c.tags
tags_at (c ∷ cs) (suc i) = tags_at cs i

abbrev pub presence_at : List Component → ℕ → Option Presence
presence_at [] i = None
presence_at (c ∷ cs) zero = Some c.presence
presence_at (c ∷ cs) (suc i) = presence_at cs i

abbrev pub schema_at : List Component → ℕ → ℕ → Option Schema
schema_at [] i n = None
schema_at (c ∷ cs) zero n = Some (c.schema n)
schema_at (c ∷ cs) (suc i) n = schema_at cs i n

abbrev pub content_at : List (Option Value) → ℕ → Option (Option Value)
content_at [] i = None
content_at (r ∷ rs) zero = Some r
content_at (r ∷ rs) (suc i) = content_at rs i

-- the variants of alternatives, in their order
abbrev pub variants_in : List Component → List VariantShape
variants_in [] = []
variants_in (c ∷ cs) = record { tag = field_tag c.tags; tree = Some c.tags } ∷ variants_in cs

-- the variants are those of the alternatives at each number of levels
pub variants_described : (cs : List Component) (n : ℕ) → variants_in cs ≡ variants_of (parts_of cs n)
variants_described [] n = refl
variants_described (c ∷ cs) n = λ i. record { tag = field_tag c.tags; tree = Some c.tags } ∷ variants_described cs n i

-- the variants of alternatives after an extension marker, where there is one
abbrev pub added_variants : Option (List Component) → Option (List VariantShape)
added_variants None = None
added_variants (Some cs) = Some (variants_in cs)

-- the variants of a choice's alternatives
abbrev pub variants_listed : TypeLists → VariantShapes
variants_listed cs = record { before = variants_in cs.before; behind = added_variants cs.behind }

-- those after the marker are those of the alternatives at each number of levels
pub added_described : (xs : Option (List Component)) (n : ℕ) → variants_after (added_variants xs)
    ≡ variants_of (parts_of (components_after xs) n)
added_described None n = refl
added_described (Some cs) n = variants_described cs n

-- a choice of alternatives, and of those after an extension marker, of which these are the variants, to a number of
-- levels
abbrev pub alternatives_of : List Component → List Component → Option (List VariantShape) → ℕ → Schema
alternatives_of cs behind xs = choice_at (parts_of cs) xs (parts_of behind)

-- a choice of alternatives, and of those after an extension marker, where there is one, to a number of levels
abbrev pub alternatives_at : List Component → Option (List Component) → ℕ → Schema
alternatives_at cs xs = alternatives_of cs (components_after xs) (added_variants xs)

pub alternatives_levelled : (cs : List Component) (xs : Option (List Component)) → Levelled (alternatives_at cs xs)
alternatives_levelled cs xs = choice_levelled (added_variants xs) (components_levelled cs)
    (components_levelled (components_after xs))

-- X.680 29: the alternative that a choice's value is, by its list and its place there, and its own value
pub record Chosen : Type 0 where
  pub side : Side
  pub place : ℕ
  pub value : Value

-- the alternative at a place before the extension marker
abbrev pub chosen : ℕ → Value → Chosen
chosen i v = record { side = root; place = i; value = v }

-- the alternative at a place after the extension marker
abbrev pub chosen_behind : ℕ → Value → Chosen
chosen_behind i v = record { side = added; place = i; value = v }

-- the value of a choice
abbrev pub chosen_value : Chosen → Value
chosen_value c = alternative c.side c.place c.value

-- What the words stand for.

-- a lower bound alone
abbrev pub lower_bound : ℤ → Bounds
lower_bound l = record { low = Some l; high = None }

-- an upper bound alone
abbrev pub upper_bound : ℤ → Bounds
upper_bound u = record { low = None; high = Some u }

-- a size alone
abbrev pub sized : Option ℕ → Option ℕ → Constraints
sized l u = record {
  value = None;
  size = Some (record { constraint = Range l u; extensible = false });
  alphabet =
      None;
}

-- a constraint with an extension marker, where there is one
abbrev pub marked : {A : Type 0} → Option (Extensible A) → Option (Extensible A)
marked None = None
marked (Some c) = Some (record { constraint = c.constraint; extensible = true })

-- The words.

-- the number types
abbrev pub u8 : Bounds
u8 = unsigned_range 8

abbrev pub u16 : Bounds
u16 = unsigned_range 16

abbrev pub u32 : Bounds
u32 = unsigned_range 32

abbrev pub u64 : Bounds
u64 = unsigned_range 64

abbrev pub i8 : Bounds
i8 = signed_range 8

abbrev pub i16 : Bounds
i16 = signed_range 16

abbrev pub i32 : Bounds
i32 = signed_range 32

abbrev pub i64 : Bounds
i64 = signed_range 64

abbrev pub i128 : Bounds
i128 = i128_range

-- every number, as `Integer` holds it
abbrev pub big : Bounds
big = unbounded

-- no constraint
abbrev pub any : Constraints
any = no_constraints

infix 45 ◌to◌ minus◌to◌ minus◌to_minus◌ size◌to◌
-- (a..b)
abbrev pub ◌to◌ : ℕ → ℕ → Constraints
a to b = within (between (pos a) (pos b))

-- (-a..b)
abbrev pub minus◌to◌ : ℕ → ℕ → Constraints
minus a to b = within (between (neg_ℤ (pos a)) (pos b))

-- (-a..-b)
abbrev pub minus◌to_minus◌ : ℕ → ℕ → Constraints
minus a to_minus b = within (between (neg_ℤ (pos a)) (neg_ℤ (pos b)))

-- (a..MAX)
abbrev pub from : ℕ → Constraints
from a = within (lower_bound (pos a))

-- (-a..MAX)
abbrev pub from_minus : ℕ → Constraints
from_minus a = within (lower_bound (neg_ℤ (pos a)))

-- (MIN..b)
abbrev pub up_to : ℕ → Constraints
up_to b = within (upper_bound (pos b))

-- (MIN..-b)
abbrev pub up_to_minus : ℕ → Constraints
up_to_minus b = within (upper_bound (neg_ℤ (pos b)))

-- (SIZE (l..u))
abbrev pub size◌to◌ : ℕ → ℕ → Constraints
size l to u = sized (Some l) (Some u)

-- (SIZE (l..MAX))
abbrev pub size_from : ℕ → Constraints
size_from l = sized (Some l) None

-- (SIZE (0..u)), written as (SIZE (MIN..u))
abbrev pub size_up_to : ℕ → Constraints
size_up_to u = sized None (Some u)

-- the bounds, or the size, with an extension marker (X.680 52): `extensible (1 to 10)` is (1..10, ...)
abbrev pub extensible : Constraints → Constraints
extensible c = record { value = marked c.value; size = marked c.size; alphabet = c.alphabet }

-- further constraints, and a permitted alphabet (X.680 51.7): `of_characters cs (size 1 to 20)` is (FROM (..)) (SIZE
-- (1..20))
abbrev pub of_characters : List ℕ → Constraints → Constraints
of_characters cs c = record {
  value = c.value;
  size = c.size;
  alphabet =
      Some (record { constraint = cs; extensible = false });
}

-- the tag of a type of its own
abbrev pub universal : ℕ → TagTree
universal i = leaf (record { class = 0; number = i })

-- a component of a kind that takes no level, by one of the kind's universal numbers
abbrev pub simple : (i : ℕ) → (s : Schema) → TakesNone s → may_be_whole 0 i s ≡ true → Component
simple i s h e = record {
  tags = universal i;
  presence = Schemas.required;
  schema = always s;
  levelled =
      simple_levelled s h;
  fits = λ n. e;
}

-- BOOLEAN
abbrev pub boolean : Component
boolean = simple 1 Schemas.boolean tt refl

-- INTEGER under constraints, held by a number type
abbrev pub integer : Bounds → Constraints → Component
integer type c = simple 2 (number_schema c type) tt refl

-- BIT STRING
abbrev pub bit_string : Constraints → Component
bit_string c = simple 3 (bit_schema c) tt refl

-- BIT STRING whose bits have names (X.680 22.7)
abbrev pub named_bits : Constraints → Component
named_bits c = simple 3 (named_bit_schema c) tt refl

-- OCTET STRING
abbrev pub octet_string : Constraints → Component
octet_string c = simple 4 (octet_schema c) tt refl

-- NULL
abbrev pub null : Component
null = simple 5 Schemas.null tt refl

-- ENUMERATED of so many items
abbrev pub enumerated : ℕ → Component
enumerated roots = simple 10 (Schema.items roots 0 false) tt refl

-- ENUMERATED of so many items before an extension marker and after it
abbrev pub extensible_enumerated : ℕ → ℕ → Component
extensible_enumerated roots addeds = simple 10 (Schema.items roots addeds true) tt refl

-- UTF8String, of which no constraint is visible (X.691 30.6)
abbrev pub utf8_string : Component
utf8_string = simple 12 (Schema.text utf8) tt refl

-- NumericString
abbrev pub numeric_string : Constraints → Component
numeric_string c = simple 18 (character_schema numeric c) tt refl

-- PrintableString
abbrev pub printable_string : Constraints → Component
printable_string c = simple 19 (character_schema printable c) tt refl

-- IA5String
abbrev pub ia5_string : Constraints → Component
ia5_string c = simple 22 (character_schema ia5 c) tt refl

-- VisibleString
abbrev pub visible_string : Constraints → Component
visible_string c = simple 26 (character_schema visible c) tt refl

-- BMPString
abbrev pub bmp_string : Constraints → Component
bmp_string c = simple 30 (character_schema bmp c) tt refl

-- SEQUENCE, with an extension marker or without one
abbrev pub sequence : TypeLists → Component
sequence cs = record {
  tags = universal 16;
  presence = Schemas.required;
  schema = sequence_at cs;
  levelled = sequence_levelled cs;
  fits = sequence_fits (root_parts cs) (has_marker cs.behind) (added_parts cs);
}

-- SEQUENCE OF under a size, or none: `sequence_of (size 1 to 4) boolean` is SEQUENCE (SIZE (1..4)) OF BOOLEAN
abbrev pub sequence_of : Constraints → Component → Component
sequence_of c element = record {
  tags = universal 16;
  presence = Schemas.required;
  schema = list_at element.schema (size_of c) (is_size_marked c);
  levelled = list_levelled (size_of c) (is_size_marked c) element.levelled;
  fits = list_fits element.schema (size_of c) (is_size_marked c);
}

abbrev pub alternative_tags : List Component → TagTrees
alternative_tags [] = no_trees
alternative_tags (c ∷ cs) = tree c.tags (alternative_tags cs)

-- X.691 21.1: the tags of an untagged CHOICE, which has an alternative (X.680 29); where there is none, 0 stands for a
-- tag
abbrev pub choice_tags : List Component → TagTree
choice_tags [] = universal 0
choice_tags (c ∷ cs) = one_of c.tags (alternative_tags cs)

tags_listed : (cs : List Component) (n : ℕ) → alternative_tags cs ≡ trees_in (parts_of cs n)
tags_listed [] n = refl
tags_listed (c ∷ cs) n = λ i. tree c.tags (tags_listed cs n i)

-- they are those of the schema
pub choice_fits : (cs : List Component) (xs : Option (List Component))
    → IsTreeAt (choice_tags cs) (alternatives_at cs xs)
choice_fits [] xs zero = refl
choice_fits [] xs (suc n) = refl
choice_fits (c ∷ cs) xs zero = tt
choice_fits (c ∷ cs) xs (suc n) = tags_listed (c ∷ cs) n

-- CHOICE, untagged; it goes by the tags of the alternatives before its extension marker, where it has one
abbrev pub choice : TypeLists → Component
choice cs = record {
  tags = choice_tags cs.before;
  presence = Schemas.required;
  schema = alternatives_at cs.before cs.behind;
  levelled = alternatives_levelled cs.before cs.behind;
  fits = choice_fits cs.before cs.behind;
}

-- a component that may be absent (X.680 25.6)
abbrev pub optional : Component → Component
optional c = record {
  tags = c.tags;
  presence = Schemas.optional;
  schema = c.schema;
  levelled = c.levelled;
  fits = c.fits;
}

-- a component for which a value is where it is absent (X.680 25.6)
abbrev pub default : Value → Component → Component
default d c = record {
  tags = c.tags;
  presence = Schemas.default d;
  schema = c.schema;
  levelled = c.levelled;
  fits = c.fits;
}

-- the tag of a component by its place
abbrev pub at : ℕ → TagTree
at i = leaf (record { class = 2; number = i })

-- a component under the tag of a class and a number
abbrev pub under_tag : ℕ → ℕ → Component → Component
under_tag zero i c = c
under_tag (suc k) i c = record {
  tags = leaf (record { class = suc k; number = i });
  presence = c.presence;
  schema = c.schema;
  levelled = c.levelled;
  fits = λ n. refl;
}

-- X.680 31.2: a component under another tag. No type is put under a universal one, nor under the tags of a CHOICE.
abbrev pub under : TagTree → Component → Component
under (leaf t) c = under_tag t.class t.number c
under (one_of t ts) c = c

abbrev pub automatic_from : ℕ → List Component → List Component
automatic_from i [] = []
automatic_from i (c ∷ cs) = under (at i) c ∷ automatic_from (suc i) cs

-- components, or alternatives, that are under the tags that they are written with
abbrev pub own_tags : List Component → TypeLists
own_tags cs = record { before = cs; behind = None }

-- those before an extension marker, and those after it
abbrev pub extensible_own_tags : List Component → List Component → TypeLists
extensible_own_tags cs xs = record { before = cs; behind = Some xs }

-- AUTOMATIC TAGS (X.680 25.7, 29.2)
abbrev pub automatic : List Component → TypeLists
automatic cs = own_tags (automatic_from 0 cs)

-- those before an extension marker, and those after it, which are counted on
abbrev pub extensible_automatic : List Component → List Component → TypeLists
extensible_automatic cs xs = extensible_own_tags (automatic_from 0 cs) (automatic_from (length cs) xs)
