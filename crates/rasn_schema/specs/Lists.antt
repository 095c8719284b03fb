-- SEQUENCE OF: its schemas to a number of levels, and its values (ITU-T X.680, 26).
use Rattle.std.specs.Prelude.{ℕ, zero, suc, max, Bool, false, List, [], ◌∷◌, Some, refl}
use Rattle.rasn_types.specs.declared.types.Class.TheVariants.{Universal}
use Rattle.rasn_types.specs.declared.types.TheConstants.Tag.{SEQUENCE}
use Rattle.rasn_constraints.specs.Bounds.{Size}
use Rattle.rasn_schema.specs.Schemas
use Rattle.rasn_schema.specs.Schemas.{Schema}
use Rattle.rasn_schema.specs.Levels.{Levelled, no_level, to_list}
use Rattle.rasn_schema.specs.Fields.{tagged}
use Rattle.rasn_schema.specs.Tags.{AreTagsOf, IsTagOf, IsTreeAt}

-- X.680 26: a SEQUENCE OF to a number of levels, of which it takes one; with none left it is cut off
abbrev pub list_at : (ℕ → Schema) → Size → Bool → ℕ → Schema
list_at element size mark zero = Schemas.cut
list_at element size mark (suc n) = Schema.list (element n) size mark

-- how many levels the deepest of some values takes
abbrev pub deepest : {A : Type 0} → (A → ℕ) → List A → ℕ
deepest levels [] = 0
deepest levels (x ∷ xs) = max (levels x) (deepest levels xs)

-- a family of lists
pub list_levelled : {element : ℕ → Schema} (size : Size) (mark : Bool) → Levelled element
    → Levelled (list_at element size mark)
list_levelled size mark u zero = no_level tt
list_levelled size mark u (suc n) = to_list (u n)

-- SEQUENCE is the tag of each SEQUENCE OF
pub list_tag : (element : ℕ → Schema) (size : Size) (mark : Bool) → IsTagOf (record { class = Universal; value = 16 })
    (list_at element size mark)
list_tag element size mark zero = refl
list_tag element size mark (suc n) = refl

-- its tags are its own
pub list_stated : (element : ℕ → Schema) (size : Size) (mark : Bool)
    → AreTagsOf SEQUENCE (Some (tagged SEQUENCE)) false (list_at element size mark)
list_stated element size mark zero = tt
list_stated element size mark (suc n) = (refl, refl)

-- SEQUENCE's tag is its tree
pub list_fits : (element : ℕ → Schema) (size : Size) (mark : Bool)
    → IsTreeAt (tagged SEQUENCE) (list_at element size mark)
list_fits element size mark zero = refl
list_fits element size mark (suc n) = refl
