-- Extension successors (ITU-T X.680, 52), of which defaults are compared only in trees that hold them.
use Rattle.std.specs.Prelude.{ℕ, ◌≤◌, ◌≡◌, Bool, true, false, Some}
use Rattle.rasn_types.specs.Values.{Value}
use Rattle.rasn_constraints.specs.Bounds.{Size}
use Rattle.rasn_schema.specs.Depth.{meets_cut}
use Rattle.rasn_schema.specs.Schemas.{Presence, required, optional, group, default, Order, TagTree, Schema, Parts}
use Rattle.rasn_schema.specs.Schemas.{no_parts, part}
use Rattle.per_core.specs.Versions.{IsPlain, widen}

-- where the newer default is whole, it is the older one as a newer reader sees it
pub record DefaultSucceeds (s' s : Schema) (d' d : Value) : Type 0 where
  pub widened : meets_cut s' d' ≡ false → widen s' s d ≡ Some d'

-- the newer part's schema, the older's, and the presence of each: the same, save that a default is widened
abbrev pub PresenceSucceeds : Schema → Schema → Presence → Presence → Type 0
PresenceSucceeds s' s (default d') (default d) = DefaultSucceeds s' s d' d
PresenceSucceeds s' s required required = Unit {0}
PresenceSucceeds s' s optional optional = Unit {0}
PresenceSucceeds s' s group group = Unit {0}
PresenceSucceeds s' s _ _ = ⊥

mutual
  -- X.680 52: the first schema is an extension successor of the second: the same tree, in which more additions,
  -- alternatives and items may be after an extension marker
  pub data Succeeds : Schema → Schema → Type 0 where
    succeeds_itself : {s : Schema} → IsPlain s → Succeeds s s
    succeeds_items : {r e e' : ℕ} → e ≤ e' → Succeeds (Schema.items r e' true) (Schema.items r e true)
    succeeds_containing : {e e' : Schema} → Succeeds e' e → Succeeds (Schema.containing e') (Schema.containing e)
    succeeds_list : {e e' : Schema} {size : Size} {mark : Bool} → Succeeds e' e
        → Succeeds (Schema.list e' size mark) (Schema.list e size mark)
    succeeds_set_of : {e e' : Schema} {size : Size} {mark : Bool} → Succeeds e' e
        → Succeeds (Schema.set_of e' size mark) (Schema.set_of e size mark)
    succeeds_sequence : {o : Order} {ext : Bool} {ps ps' adds adds' : Parts} → SucceedsParts false ps' ps
        → SucceedsParts ext adds' adds
        → Succeeds (Schema.sequence o ps' ext adds') (Schema.sequence o ps ext adds)
    succeeds_choice : {ext : Bool} {ps ps' adds adds' : Parts} → SucceedsParts false ps' ps
        → SucceedsParts ext adds' adds
        → Succeeds (Schema.choice ps' adds' ext) (Schema.choice ps adds ext)

  -- the first members succeed the second ones; the truth value says whether some may have been added
  pub data SucceedsParts : Bool → Parts → Parts → Type 0 where
    none_succeed : {may : Bool} → SucceedsParts may no_parts no_parts
    added_parts : {t : TagTree} {p : Presence} {s : Schema} {ps : Parts} → SucceedsParts true (part t p s ps) no_parts
    succeeds_part : {may : Bool} {t : TagTree} {p p' : Presence} {s s' : Schema} {ps ps' : Parts}
        → PresenceSucceeds s' s p' p → Succeeds s' s
        → SucceedsParts may ps' ps → SucceedsParts may (part t p' s' ps') (part t p s ps)

-- one type is an extension successor of another, at every number of levels
abbrev pub SucceedsType : (ℕ → Schema) → (ℕ → Schema) → Type 0
SucceedsType newer older = (n : ℕ) → Succeeds (newer n) (older n)
