-- What a lawful schema is: what ITU-T X.680 asks of a type, and the limits of this project.
use Rattle.std.specs.Prelude.{ℕ, zero, suc, ◌^◌, ◌≡◌, Bool, true, false, not, ◌&&◌, nat_lt, ◌==◌, List, [], ◌∷◌, ◌++◌}
use Rattle.std.specs.Prelude.{length, Option, Some, None}
use Rattle.rasn_types.specs.Contents.{is_text, is_time, is_identifier, is_date}
use Rattle.rasn_types.specs.Values.{Value, whole, truth, nothing, item, octets, bits, characters, elements, bag, fields}
use Rattle.rasn_types.specs.Values.{alternative, day, root, added, values, slots, same, bag_of}
use Rattle.rasn_constraints.specs.Bounds.{holds, Bounds}
use Rattle.rasn_constraints.specs.LawfulConstraints.{are_lawful_bounds, is_lawful_size}
use Rattle.rasn_schema.specs.Depth.{Unfolds, meets_cut}
use Rattle.rasn_schema.specs.Normal.{normal}
use Rattle.rasn_schema.specs.Schemas.{Tag, TagTree, leaf, one_of, TagTrees, no_trees, tree, Presence, required}
use Rattle.rasn_schema.specs.Schemas.{optional, group, default, Order, listed, by_tag, Schema, Parts, no_parts, part}
use Rattle.rasn_schema.specs.Structures.{presence_bits}

unfoldable mutual
  -- X.680 29.3: all tags of a tree
  pub leaves : TagTree → List Tag
  leaves (leaf t) = t ∷ []
  leaves (one_of t ts) = leaves t ++ leaves_of ts

  -- all tags of some trees
  pub leaves_of : TagTrees → List Tag
  leaves_of no_trees = []
  leaves_of (tree t ts) = leaves t ++ leaves_of ts

-- X.680 29.3: the tags of parts or alternatives; an addition group has none of its own
abbrev pub tags_below : Parts → List Tag
tags_below no_parts = []
tags_below (part t group s ps) = tags_below ps
tags_below (part t p s ps) = leaves t ++ tags_below ps

-- whether two tags are one
abbrev pub same_tag : Tag → Tag → Bool
same_tag t u = t.class == u.class && t.number == u.number

-- whether a tag isn't in a list
abbrev pub is_new : Tag → List Tag → Bool
is_new t [] = true
is_new t (u ∷ us) = not (same_tag t u) && is_new t us

-- X.680 27.3, 29.3: whether no tag stands twice in a list
abbrev pub are_distinct : List Tag → Bool
are_distinct [] = true
are_distinct (t ∷ ts) = is_new t ts && are_distinct ts

-- X.680 27.3: whether a record's tags are as they have to be: a SET's differ, a SEQUENCE's may repeat
abbrev pub are_lawful_tags : Order → Parts → Parts → Bool
are_lawful_tags listed ps adds = true
are_lawful_tags by_tag ps adds = are_distinct (tags_below ps ++ tags_below adds)

-- X.680 25.1: whether no part is an addition group
abbrev pub no_groups : Parts → Bool
no_groups no_parts = true
no_groups (part t group s ps) = false
no_groups (part t p s ps) = no_groups ps

-- X.680 29.1: whether each alternative is required
abbrev pub are_required : Parts → Bool
are_required no_parts = true
are_required (part t required s ps) = are_required ps
are_required (part t p s ps) = false

-- X.680 25.1: whether a schema may be that of an addition group: a SEQUENCE, also one that is cut off
abbrev pub is_group_schema : Schema → Bool
is_group_schema (Schema.sequence listed ps ext adds) = true
is_group_schema Schema.cut = true
is_group_schema _ = false

-- whether all of a list pass a test
abbrev pub all_pass : {A : Type 0} → (A → Bool) → List A → Bool
all_pass f [] = true
all_pass f (x ∷ xs) = f x && all_pass f xs

-- whether numbers are octets
abbrev pub are_octets : List ℕ → Bool
are_octets os = all_pass (λ o. nat_lt o 256) os

-- whether a list has no more members than `usize::MAX` (this project's limit)
abbrev pub is_countable : {A : Type 0} → List A → Bool
is_countable xs = nat_lt (length xs) (2 ^ 64)

-- whether octets that pass a test are the value
abbrev pub if_octets : (List ℕ → Bool) → Value → Bool
if_octets f (octets os) = is_countable os && (are_octets os && f os)
if_octets f _ = false

-- whether characters that pass a test are the value
abbrev pub if_characters : (List ℕ → Bool) → Value → Bool
if_characters f (characters cs) = is_countable cs && f cs
if_characters f _ = false

-- whether a truth value is the value
abbrev pub if_truth : Value → Bool
if_truth (truth b) = true
if_truth _ = false

-- whether NULL's value is the value
abbrev pub if_nothing : Value → Bool
if_nothing nothing = true
if_nothing _ = false

-- whether a day of the calendar is the value
abbrev pub if_day : Value → Bool
if_day (day y m d) = is_date y m d
if_day _ = false

-- whether a number within a range is the value
abbrev pub if_whole : Bounds → Value → Bool
if_whole range (whole z) = holds range z
if_whole range _ = false

-- whether a known item is the value
abbrev pub if_item : ℕ → ℕ → Value → Bool
if_item r e (item root i) = nat_lt i r
if_item r e (item added i) = nat_lt i e
if_item r e _ = false

-- whether bits are the value
abbrev pub if_bits : Value → Bool
if_bits (bits bs) = is_countable bs
if_bits _ = false

-- whether a list of elements that each pass a test is the value
abbrev pub if_elements : (Value → Bool) → Value → Bool
if_elements f (elements vs) = is_countable (values vs) && all_pass f (values vs)
if_elements f _ = false

-- whether a bag of elements that each pass a test is the value, kept in its one order
unfoldable pub if_bag : (Value → Bool) → Value → Bool
unfolding same bag_of
if_bag f (bag vs) = is_countable (values vs) && (all_pass f (values vs) && same (bag_of (values vs)) (bag vs))
if_bag f _ = false

-- whether a record whose root parts and additions pass tests is the value
abbrev pub if_fields : (List (Option Value) → Bool) → (List (Option Value) → Bool) → Value → Bool
if_fields f g (fields r x) = f (slots r) && g (slots x)
if_fields f g _ = false

-- whether an alternative whose value passes a test is the value
abbrev pub if_alternative : (ℕ → Value → Bool) → (ℕ → Value → Bool) → Value → Bool
if_alternative f g (alternative root i v) = f i v
if_alternative f g (alternative added i v) = g i v
if_alternative f g _ = false

-- whether a part that is absent may be so, or else its value passes a test; one with a default is always there
abbrev pub slot_passes : Presence → (Value → Bool) → Option Value → Bool
slot_passes p f (Some v) = f v
slot_passes optional f None = true
slot_passes group f None = true
slot_passes p f None = false

-- the first part, and the others
abbrev pub slots_pass : (Option Value → Bool) → (List (Option Value) → Bool) → List (Option Value) → Bool
slots_pass f g [] = false
slots_pass f g (x ∷ xs) = f x && g xs

-- no parts
abbrev pub none_left : List (Option Value) → Bool
none_left [] = true
none_left (x ∷ xs) = false

unfoldable mutual
  unfolding if_bag is_text is_time is_identifier

  -- X.680: whether a value is one of a schema's kind, in the range of its number type, whatever its constraints; REAL
  -- has none
  pub is_value : Schema → Value → Bool
  is_value Schema.boolean = if_truth
  is_value Schema.null = if_nothing
  is_value Schema.real = λ v. false
  is_value Schema.cut = λ v. false
  is_value Schema.any = if_octets (λ os. true)
  is_value (Schema.text kind) = if_octets (is_text kind)
  is_value Schema.identifier = if_octets is_identifier
  is_value (Schema.time kind) = if_characters (is_time kind)
  is_value Schema.date = if_day
  is_value (Schema.number bounds mark range) = if_whole range
  is_value (Schema.items r e ext) = if_item r e
  is_value (Schema.octet_string size mark) = if_octets (λ os. true)
  is_value (Schema.bit_string size mark named) = if_bits
  is_value (Schema.char_string alphabet size mark) = if_characters (λ cs. true)
  is_value (Schema.containing e) = is_value e
  is_value (Schema.list e size mark) = if_elements (is_value e)
  is_value (Schema.set_of e size mark) = if_bag (is_value e)
  is_value (Schema.sequence o ps ext adds) = if_fields (are_values ps) (are_values adds)
  is_value (Schema.choice ps adds ext) = if_alternative (is_value_at ps) (is_value_at adds)

  -- whether a record's components are values of its parts
  pub are_values : Parts → List (Option Value) → Bool
  are_values no_parts = none_left
  are_values (part t p s ps) = slots_pass (slot_passes p (is_value s)) (are_values ps)

  -- whether a value is one of the alternative at a place
  pub is_value_at : Parts → ℕ → Value → Bool
  is_value_at no_parts = λ i v. false
  is_value_at (part t p s ps) = elim [ zero ↦ is_value s | suc i ↦ is_value_at ps i ]

-- X.680 25.9: a default, where it meets no branch that is cut off, is a value of its schema and in normal form
pub record IsLawfulDefault (s : Schema) (d : Value) : Type 0 where
  pub is_of_kind : meets_cut s d ≡ false → is_value s d ≡ true
  pub is_normal : meets_cut s d ≡ false → normal s d ≡ d

-- X.680 25.1, 25.9: whether a part may have its presence: an addition group is a SEQUENCE, a default is lawful
abbrev pub IsLawfulPresence : Schema → Presence → Type 0
IsLawfulPresence s required = Unit {0}
IsLawfulPresence s optional = Unit {0}
IsLawfulPresence s group = is_group_schema s ≡ true
IsLawfulPresence s (default d) = IsLawfulDefault s d

-- X.680 27.3: a SEQUENCE or SET, parts aside: no addition group in the root, fewer than 65536 root parts with a
-- presence bit (this project's limit), and lawful tags
pub record IsLawfulRecord (o : Order) (ps adds : Parts) : Type 0 where
  pub root_groups : no_groups ps ≡ true
  pub few_bits : nat_lt (presence_bits ps) 65536 ≡ true
  pub lawful_tags : are_lawful_tags o ps adds ≡ true

-- X.680 29.3: a CHOICE, alternatives aside: each is required, and their tags differ
pub record IsLawfulChoice (ps adds : Parts) : Type 0 where
  pub all_required : (are_required ps && are_required adds) ≡ true
  pub distinct_tags : are_distinct (tags_below ps ++ tags_below adds) ≡ true

unfoldable mutual
  unfolding leaves is_value normal meets_cut

  -- X.680: a lawful schema: its bounds and sizes are in order, its tags differ where they have to, its defaults are
  -- values of their schemas in normal form, and it keeps within the limits of this project; so does each schema in it
  pub IsLawful : Schema → Type 0
  IsLawful (Schema.number bounds mark range) = are_lawful_bounds bounds.low bounds.high ≡ true
  IsLawful (Schema.octet_string size mark) = is_lawful_size size.least size.most ≡ true
  IsLawful (Schema.bit_string size mark named) = is_lawful_size size.least size.most ≡ true
  IsLawful (Schema.char_string alphabet size mark) = is_lawful_size size.least size.most ≡ true
  IsLawful (Schema.containing e) = IsLawful e
  IsLawful (Schema.list e size mark) = (is_lawful_size size.least size.most ≡ true) × IsLawful e
  IsLawful (Schema.set_of e size mark) = (is_lawful_size size.least size.most ≡ true) × IsLawful e
  IsLawful (Schema.sequence o ps ext adds) = IsLawfulRecord o ps adds × AreLawful ps × AreLawful adds
  IsLawful (Schema.choice ps adds ext) = IsLawfulChoice ps adds × AreLawful ps × AreLawful adds
  IsLawful _ = Unit {0}

  -- parts, additions or alternatives are lawful, each with all schemas in it
  pub AreLawful : Parts → Type 0
  AreLawful no_parts = Unit {0}
  AreLawful (part t p s ps) = IsLawfulPresence s p × IsLawful s × AreLawful ps

-- a lawful type of any depth: its trees are its unfoldings, and each of them is lawful
pub record IsLawfulType (at : ℕ → Schema) : Type 0 where
  pub unfolds : Unfolds at
  pub lawful : (n : ℕ) → IsLawful (at n)
