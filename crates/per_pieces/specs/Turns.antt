-- How many components of an open scope, or values of an open list, are still to come, where what comes in it is
-- counted, or gathered (ITU-T X.691, 19, 20, 21.1, 22).
use Rattle.std.specs.Prelude.{ℕ, zero, suc, Bool, true, false, Option, Some, None}
use Rattle.per_pieces.specs.OpenSets.{OpenSet}
use Rattle.per_pieces.specs.declared.enclosing.Enclosed.{Enclosed}
use Rattle.per_pieces.specs.declared.enclosing.Enclosed.TheVariants.{Awaiting, Gathered, InList, Misplaced, Uncounted}

-- whose turn it is in an open scope: nothing is counted; so many components are still to come; it is a list, and so
-- many values are still to come before it is gone on in; or more came than were to come
pub data Turn : Type 0 where
  uncounted : Turn
  awaits : ℕ → Turn
  in_list : ℕ → Turn
  misplaced : Turn

-- a component came
abbrev pub next : Turn → Turn
next uncounted = uncounted
next (awaits zero) = misplaced
next (awaits (suc n)) = awaits n
next (in_list zero) = misplaced
next (in_list (suc n)) = in_list n
next misplaced = misplaced

-- so many components came
abbrev pub past : ℕ → Turn → Turn
past zero t = t
past (suc n) t = past n (next t)

-- a presence bit was given: a bit 0 is a component that is left out, and after a bit 1 its value is still to come
abbrev pub marked : Bool → Turn → Turn
marked true t = t
marked false t = next t

-- what encloses what is written next: the scope of which the components are counted, or a SET of which they are
-- gathered
pub data Enclosing : Type 0 where
  counts : Turn → Enclosing
  gathers : OpenSet → Enclosing

-- a component came, where components are counted
abbrev pub counted : Enclosing → Enclosing
counted (counts t) = counts (next t)
counted (gathers set) = gathers set

-- whether all components came that were counted
abbrev pub is_complete : Enclosing → Bool
is_complete (counts uncounted) = false
is_complete (counts (awaits zero)) = true
is_complete (counts (awaits (suc n))) = false
is_complete (counts (in_list n)) = false
is_complete (counts misplaced) = false
is_complete (gathers set) = false

-- whether a list is open in which no value is still to come before it is gone on in
abbrev pub is_between : Enclosing → Bool
is_between (counts uncounted) = false
is_between (counts (awaits n)) = false
is_between (counts (in_list zero)) = true
is_between (counts (in_list (suc n))) = false
is_between (counts misplaced) = false
is_between (gathers set) = false

-- whether nothing is counted or gathered
abbrev pub is_uncounted : Enclosing → Bool
is_uncounted (counts uncounted) = true
is_uncounted (counts (awaits n)) = false
is_uncounted (counts (in_list n)) = false
is_uncounted (counts misplaced) = false
is_uncounted (gathers set) = false

-- whether components are gathered
abbrev pub is_gathered : Enclosing → Bool
is_gathered (counts t) = false
is_gathered (gathers set) = true

-- the SET of which the components are gathered
abbrev pub gathered : Enclosing → Option OpenSet
gathered (counts t) = None
gathered (gathers set) = Some set

-- what encloses, as it is kept
abbrev pub enclosing_of : {T : Type 0} → (T → OpenSet) → Enclosed T → Enclosing
enclosing_of set_of Uncounted = counts uncounted
enclosing_of set_of (Awaiting n) = counts (awaits n)
enclosing_of set_of (InList n) = counts (in_list n)
enclosing_of set_of Misplaced = counts misplaced
enclosing_of set_of (Gathered t) = gathers (set_of t)
