-- A SET, and how it is made of its components, one after another.
use Rattle.std.specs.Prelude.{nat_eq, if◌then◌else◌}
use Rattle.std.specs.Prelude.{List, [], ◌∷◌, Option, Some, None}
use Rattle.rasn_below.specs.Page.{Value, truth, slot_of, Component, at, boolean, optional, under}
use Rattle.rasn_below.specs.Types.{leaf}
use Rattle.per_samples_sets.specs.declared.set_each.Item.{Item}
use Rattle.per_samples_sets.specs.declared.set_each.SetEach.{SetEach}

-- SET { p [PRIVATE 0] BOOLEAN OPTIONAL, q [0] BOOLEAN OPTIONAL, r [1] BOOLEAN OPTIONAL }
abbrev pub set_each : List Component
set_each =
    under (leaf (record { class = 3; number = 0 })) (optional boolean) ∷
    under (at 0) (optional boolean) ∷
    under (at 1) (optional boolean) ∷ []

-- nothing is there
abbrev pub none : SetEach
none = record { p = None; q = None; r = None }

-- a value with one component given
abbrev pub with_item : SetEach → Item → SetEach
with_item s x =
    if nat_eq x.index 0 then record { p = Some x.value; q = s.q; r = s.r }
    else if nat_eq x.index 1 then record { p = s.p; q = Some x.value; r = s.r }
    else record { p = s.p; q = s.q; r = Some x.value }

-- a value with some components given, one after another
abbrev pub with_items : SetEach → List Item → SetEach
with_items s [] = s
with_items s (x ∷ xs) = with_items (with_item s x) xs

-- what the components are
abbrev pub set_each_contents : SetEach → List (Option Value)
set_each_contents s = slot_of truth s.p ∷ slot_of truth s.q ∷ slot_of truth s.r ∷ []
