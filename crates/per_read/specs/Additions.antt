-- The additions of a record, read one after another (X.691 19.7 to 19.9).
use Rattle.std.specs.Prelude.{◌≡◌, List, [], ◌∷◌, Bool, Option}
use Rattle.rasn_types.specs.Bits.{Bits}
use Rattle.rasn_types.specs.Values.{Value}
use Rattle.per_core.specs.Basic.{Additions, IsBitmap, Root, Rule}
use Rattle.per_core.specs.Spellings.{Settings, Took}
use Rattle.per_core.specs.AdditionFaults.{Addition}

-- the first of some additions was taken, and the others after it
pub record FirstAddition (a : Settings) (r : Rule) (rs : List Rule) (xs : List (Option Value)) (flag : Option Bool)
    (rest : List Bool) (s t : Bits) : Type 0 where
  pub first : Option Value
  pub others : List (Option Value)
  pub middle : Bits
  pub are : xs ≡ first ∷ others
  pub here : Took (Addition a r first flag) s middle
  pub behind : Took (Additions a rs others rest) middle t

-- X.691 19: what was taken after an extension bit 0: the root parts; every addition is left out
pub record IsPlain (a : Settings) (rs adds : List Rule) (ss xs : List (Option Value)) (s t : Bits) : Type 0 where
  pub middle : Bits
  pub root : Took (Root rs ss) s middle
  pub additions : Took (Additions a adds xs []) middle t

-- X.691 19: what was taken after an extension bit 1: the root parts, a bitmap, and the additions that it shows
pub record IsExtended (a : Settings) (rs adds : List Rule) (ss xs : List (Option Value)) (s t : Bits) : Type 0 where
  pub flags : List Bool
  pub middle : Bits
  pub behind : Bits
  pub root : Took (Root rs ss) s middle
  pub bitmap : Took (IsBitmap a flags) middle behind
  pub additions : Took (Additions a adds xs flags) behind t
