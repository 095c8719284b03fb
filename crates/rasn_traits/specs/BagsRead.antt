-- How a SET OF is read, stated over any codec's relations.
use Rattle.std.specs.Prelude.{Bool, List}
use Rattle.rasn_types.specs.Values.{Value, bag_of}
use Rattle.rasn_constraints.specs.Bounds.{Size}
use Rattle.rasn_schema.specs.Structures.{list_value}
use Rattle.rasn_schema.specs.Schemas.{Schema}
use Rattle.rasn_traits.specs.Calls.{DecoderRules}

-- nothing is read of a schema
abbrev pub Unread : {E S : Type 0} → DecoderRules E S → Schema → S → Type 0
Unread {E} {S} rules c s = (v : Value) (t : S) → rules.spells c s v t → ⊥

-- What holds of a decoder's bags: a SET OF is read as a SEQUENCE OF is, its elements in whatever order (X.691 22).
-- Where a list is read, so is the bag of its elements; where none is, no bag is; a list's fault is one of the bag; and
-- nothing is read where a schema is cut off.
pub record BagsWell {E S : Type 0} (rules : DecoderRules E S) : Type 0 where
  pub bag_read : (e : Schema) (size : Size) (mark : Bool) (s t : S) (vs : List Value)
      → rules.spells (Schema.list e size mark) s (list_value vs) t
      → rules.spells (Schema.set_of e size mark) s (bag_of vs) t
  pub none : (e : Schema) (size : Size) (mark : Bool) (s : S) → Unread rules (Schema.list e size mark) s
      → Unread rules (Schema.set_of e size mark) s
  pub in_list : (e : Schema) (size : Size) (mark : Bool) (s : S) (d : E) → rules.fault (Schema.list e size mark) d s
      → rules.fault (Schema.set_of e size mark) d s
  pub cut : (s : S) → Unread rules Schema.cut s
