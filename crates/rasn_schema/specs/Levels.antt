-- A tree of kinds to a number of levels, and the family of such trees that a type owes.
use Rattle.std.specs.Prelude.{ℕ, zero, suc, ◌<◌, Bool}
use Rattle.rasn_constraints.specs.Bounds.{Size}
use Rattle.rasn_schema.specs.Schemas.{Presence, Order, TagTree, Schema, Parts, no_parts, part}
use Rattle.rasn_schema.specs.Forms.{always}
use Rattle.rasn_schema.specs.Records.{record_at, no_additions}

-- kinds that take one level, and kinds that take none; a date takes two, and what contains a value takes those of that
abbrev pub TakesLevel : Schema → Type 0
TakesLevel (Schema.list e size mark) = Unit {0}
TakesLevel (Schema.set_of e size mark) = Unit {0}
TakesLevel (Schema.sequence o ps ext adds) = Unit {0}
TakesLevel (Schema.choice ps adds ext) = Unit {0}
TakesLevel _ = ⊥

abbrev pub TakesNone : Schema → Type 0
TakesNone (Schema.containing e) = ⊥
TakesNone (Schema.list e size mark) = ⊥
TakesNone (Schema.set_of e size mark) = ⊥
TakesNone (Schema.sequence o ps ext adds) = ⊥
TakesNone (Schema.choice ps adds ext) = ⊥
TakesNone Schema.date = ⊥
TakesNone Schema.cut = ⊥
TakesNone _ = Unit {0}

-- The first tree is the second to n levels: a list, a bag, a record and a choice leave one less for what is in
-- them; where none is left they are Cut, and a date where fewer than two are. (The second may be cut off there too.)
mutual
  pub data ToLevels : ℕ → Schema → Schema → Type 0 where
    to_leaf : {n : ℕ} {s : Schema} → TakesNone s → ToLevels n s s
    to_date : {n : ℕ} → ToLevels (suc (suc n)) Schema.date Schema.date
    no_date : {n : ℕ} → n < 2 → ToLevels n Schema.cut Schema.date
    still_cut : {n : ℕ} → n < 2 → ToLevels n Schema.cut Schema.cut
    no_level : {t : Schema} → TakesLevel t → ToLevels zero Schema.cut t
    to_containing : {n : ℕ} {s t : Schema} → ToLevels n s t → ToLevels n (Schema.containing s) (Schema.containing t)
    to_list : {n : ℕ} {s t : Schema} {size : Size} {mark : Bool} → ToLevels n s t
        → ToLevels (suc n) (Schema.list s size mark) (Schema.list t size mark)
    to_set_of : {n : ℕ} {s t : Schema} {size : Size} {mark : Bool} → ToLevels n s t
        → ToLevels (suc n) (Schema.set_of s size mark) (Schema.set_of t size mark)
    to_sequence : {n : ℕ} {o : Order} {ext : Bool} {ps qs adds bdds : Parts} → PartsToLevels n ps qs
        → PartsToLevels n adds bdds → ToLevels (suc n) (Schema.sequence o ps ext adds) (Schema.sequence o qs ext bdds)
    to_choice : {n : ℕ} {ext : Bool} {ps qs adds bdds : Parts} → PartsToLevels n ps qs → PartsToLevels n adds bdds
        → ToLevels (suc n) (Schema.choice ps adds ext) (Schema.choice qs bdds ext)

  pub data PartsToLevels : ℕ → Parts → Parts → Type 0 where
    to_no_parts : {n : ℕ} → PartsToLevels n no_parts no_parts
    to_part : {n : ℕ} {t : TagTree} {p : Presence} {s s' : Schema} {ps ps' : Parts} → ToLevels n s s'
        → PartsToLevels n ps ps' → PartsToLevels n (part t p s ps) (part t p s' ps')

-- what a type's family of trees owes: each is the next one to its number of levels
abbrev pub Levelled : (ℕ → Schema) → Type 0
Levelled family = (n : ℕ) → ToLevels n (family n) (family (suc n))

-- each list of a record's components is the next one to its number of levels
abbrev pub LevelledParts : (ℕ → Parts) → Type 0
LevelledParts parts = (n : ℕ) → PartsToLevels n (parts n) (parts (suc n))

-- ---- families that are such

-- a kind that takes no level
pub simple_levelled : (s : Schema) → TakesNone s → Levelled (always s)
simple_levelled s h n = to_leaf h

-- components, one by one
pub parts_levelled : LevelledParts no_additions
parts_levelled n = to_no_parts

pub part_levelled : {t : TagTree} {p : Presence} {s : ℕ → Schema} {ps : ℕ → Parts} → Levelled s → LevelledParts ps
    → LevelledParts (λ n. part t p (s n) (ps n))
part_levelled u w n = to_part (u n) (w n)

-- what contains a value
pub containing_levelled : {s : ℕ → Schema} → Levelled s → Levelled (λ n. Schema.containing (s n))
containing_levelled u n = to_containing (u n)

-- a record
pub record_levelled : {o : Order} {extensible : Bool} {ps xs : ℕ → Parts} → LevelledParts ps → LevelledParts xs
    → Levelled (record_at o ps extensible xs)
record_levelled u w zero = no_level tt
record_levelled u w (suc n) = to_sequence (u n) (w n)
