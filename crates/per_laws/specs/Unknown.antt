-- Records in whose encodings additions stand that the reader's schema doesn't know (ITU-T X.691, 19.7 to 19.9).
use Rattle.std.specs.Prelude.{ℕ, zero, suc, ◌≡◌, ◌⊎◌, Bool, true, false, List, [], ◌∷◌, ◌++◌, length, Option}
use Rattle.rasn_types.specs.Bits.{Bits}
use Rattle.rasn_types.specs.Values.{Value, fields, as_slots}
use Rattle.rasn_schema.specs.Orders.{ordered}
use Rattle.rasn_schema.specs.Schemas.{Order, Parts, tags, count}
use Rattle.per_core.specs.Basic.{OneByOne, Octets, Root, IsBitmap, Additions_in, rules}
use Rattle.per_core.specs.Spellings.{Settings, Spelling, exactly, Then}
use Rattle.per_core.specs.Writers.{after}

-- how many bits are 1
abbrev pub count_set : List Bool → ℕ
count_set [] = zero
count_set (false ∷ bs) = count_set bs
count_set (true ∷ bs) = suc (count_set bs)

-- X.691 11.2: open types of these octets, one after the other
abbrev pub OpenTypes : Settings → List (List ℕ) → Spelling
OpenTypes a = OneByOne (Octets a)

-- X.691 19: a record with extension bit 1 up to its unknown additions: the root components, a bitmap, in which `more`
-- is after the bits for the additions of the schema, and these additions. A bitmap may also be shorter than the
-- schema's list
pub record BeforeUnknown (a : Settings) (o : Order) (ps adds : Parts) (more : List Bool) (v : Value) (p : ℕ)
    (bits : Bits) : Type 0 where
  pub components : List (Option Value)
  pub additions : List (Option Value)
  pub is : v ≡ fields (as_slots components) (as_slots additions)
  pub shown : List Bool
  pub enough : (length shown ≡ count adds) ⊎ (more ≡ [])
  pub spelled : Then (exactly (true ∷ []))
      (Then (Root (ordered o (tags ps) (rules a ps)) (ordered o (tags ps) components))
      (Then (IsBitmap a (shown ++ more)) (Additions_in a false (rules a adds) additions shown))) p bits

-- a record with extension bit 1, and the octets of its unknown additions after all else
pub record WithUnknown (a : Settings) (o : Order) (ps adds : Parts) (v : Value) (p : ℕ) (bits : Bits) : Type 0 where
  pub more : List Bool
  pub octets : List (List ℕ)
  pub known : Bits
  pub unknown : Bits
  pub joins : bits ≡ known ++ unknown
  pub is_known : BeforeUnknown a o ps adds more v p known
  pub announced : count_set more ≡ length octets
  pub is_unknown : OpenTypes a octets (after p known) unknown
