-- SETs, each with its components in the order of its type.
use Rattle.std.specs.Prelude.{Bool, List, [], ◌∷◌, Option, Some}
use Rattle.rasn_below.specs.Page.{Value, nothing, truth, Chosen, at, boolean, choice, chosen, integer, null}
use Rattle.rasn_below.specs.Page.{optional, private, u8, under, ◌to◌, TypeLists, own_tags, extensible_own_tags}
use Rattle.per_samples_sets.specs.declared.truth_or_none.TruthOrNone.{TruthOrNone}
use Rattle.per_samples_sets.specs.declared.truth_or_none.TruthOrNone.TheVariants.{M, N}

-- SET { b [1] INTEGER (0..255), a [0] BOOLEAN }
abbrev pub set : TypeLists
set = own_tags (under (at 1) (integer u8 (0 to 255)) ∷ under (at 0) boolean ∷ [])

-- SET { b [1] INTEGER (0..255), a [0] BOOLEAN, ..., d [3] BOOLEAN, c [2] INTEGER (0..7) OPTIONAL }
abbrev pub extended_set : TypeLists
extended_set = extensible_own_tags
    (under (at 1) (integer u8 (0 to 255)) ∷ under (at 0) boolean ∷ [])
    (under (at 3) boolean ∷ under (at 2) (optional (integer u8 (0 to 7))) ∷ [])

-- SET { p [PRIVATE 0] BOOLEAN OPTIONAL, q [0] BOOLEAN OPTIONAL, r [1] BOOLEAN OPTIONAL }
abbrev pub set_optional : TypeLists
set_optional = own_tags (
    under (private 0) (optional boolean) ∷
    under (at 0) (optional boolean) ∷
    under (at 1) (optional boolean) ∷ [])

-- CHOICE { m [3] BOOLEAN, n [9] NULL }
abbrev pub truth_or_none : TypeLists
truth_or_none = own_tags (under (at 3) boolean ∷ under (at 9) null ∷ [])

-- the alternative that a value is
abbrev pub truth_or_none_chosen : TruthOrNone → Chosen
truth_or_none_chosen (M m) = chosen 0 (truth m)
truth_or_none_chosen N = chosen 1 nothing

-- SET { k [5] BOOLEAN, c CHOICE { m [3] BOOLEAN, n [9] NULL } }, whose choice has no tag of its own
abbrev pub set_choice : TypeLists
set_choice = own_tags (under (at 5) boolean ∷ choice truth_or_none ∷ [])

-- what its components are
abbrev pub set_choice_contents : Bool → Value → List (Option Value)
set_choice_contents k c = Some (truth k) ∷ Some c ∷ []
