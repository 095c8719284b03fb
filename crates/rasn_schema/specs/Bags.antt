-- SET OF: its schemas to a number of levels, and its values (ITU-T X.680, 28).
use Rattle.std.specs.Prelude.{ℕ, zero, suc, Bool, false, Some, refl}
use Rattle.rasn_types.specs.declared.types.Class.TheVariants.{Universal}
use Rattle.rasn_types.specs.declared.types.TheConstants.Tag.{SET}
use Rattle.rasn_constraints.specs.Bounds.{Size}
use Rattle.rasn_schema.specs.Schemas
use Rattle.rasn_schema.specs.Schemas.{Schema}
use Rattle.rasn_schema.specs.Levels.{Levelled, no_level, to_set_of}
use Rattle.rasn_schema.specs.Fields.{tagged}
use Rattle.rasn_schema.specs.Tags.{AreTagsOf, IsTagOf, IsTreeAt}

-- X.680 28: a SET OF to a number of levels, of which it takes one; with none left it is cut off
abbrev pub set_at : (ℕ → Schema) → Size → Bool → ℕ → Schema
set_at member size mark zero = Schemas.cut
set_at member size mark (suc n) = Schema.set_of (member n) size mark

-- a family of bags
pub set_levelled : {member : ℕ → Schema} (size : Size) (mark : Bool) → Levelled member
    → Levelled (set_at member size mark)
set_levelled size mark u zero = no_level tt
set_levelled size mark u (suc n) = to_set_of (u n)

-- SET is the tag of each SET OF
pub set_tag : (member : ℕ → Schema) (size : Size) (mark : Bool)
    → IsTagOf (record { class = Universal; value = 17 }) (set_at member size mark)
set_tag member size mark zero = refl
set_tag member size mark (suc n) = refl

-- its tags are that one alone
pub set_stated : (member : ℕ → Schema) (size : Size) (mark : Bool)
    → AreTagsOf SET (Some (tagged SET)) false (set_at member size mark)
set_stated member size mark zero = tt
set_stated member size mark (suc n) = (refl, refl)

-- it is the tree of each
pub set_fits : (member : ℕ → Schema) (size : Size) (mark : Bool) → IsTreeAt (tagged SET) (set_at member size mark)
set_fits member size mark zero = refl
set_fits member size mark (suc n) = refl
