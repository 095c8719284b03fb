-- What is in ascending order of tags does so at each number of levels.
use Rattle.std.proofs.Common.{◌≡◌, refl, sym, ap, ℕ, List, [], ◌∷◌, length, Option, arith}
use Rattle.rasn_types.specs.Values.{Value}
use Rattle.rasn_schema.specs.Orders.{canonised, canonised_slots, by_tags}
use Rattle.rasn_schema.specs.Components.{Component, TypeLists, parts_of, root_parts}
use Rattle.rasn_schema.specs.Schemas.{count, no_parts, part, Parts, smallest, Tag, tags}
use Rattle.rasn_traits.specs.Sets.{InTagOrder}
use Rattle.rasn_sets.specs.SetRecords.{AreAscending, slots_in_order}

tags_alike : (cs : List Component) (n : ℕ) → tags (parts_of cs n) ≡ tags (parts_of cs 0)
tags_alike [] n = refl
tags_alike (c ∷ cs) n = ap (λ ts. smallest c.tags ∷ ts) (tags_alike cs n)

count_of : (cs : List Component) (n : ℕ) → count (parts_of cs n) ≡ length cs
count_of [] n = refl
count_of (c ∷ cs) n = let h = count_of cs n in omega arith

-- what components are is in the order of the tags
pub slots_alike : (cs : TypeLists) (rs : List (Option Value)) (n : ℕ) → slots_in_order cs rs ≡ canonised_slots (root_parts cs n) rs
slots_alike cs rs n = ap (λ ts. by_tags ts rs) (sym (tags_alike cs.before n))

-- and there is as much as there are components
pub are_in_order : (cs : TypeLists) (rs : List (Option Value)) → length rs ≡ length cs.before → InTagOrder (root_parts cs) rs (slots_in_order cs rs)
are_in_order cs rs e = record { counted = λ n. rw (count_of cs.before n) e; placed = λ n. slots_alike cs rs n }

-- what is listed in ascending order of tags is in that order
pub ascending_slots : (ts : List Tag) (rs : List (Option Value)) → AreAscending ts → by_tags ts rs ≡ rs
ascending_slots ts [] h = refl
ascending_slots [] (r ∷ rs) h = refl
ascending_slots (t ∷ ts) (r ∷ rs) h = rw (h.0, ascending_slots ts rs h.1) refl

pub ascending_parts : (ps : Parts) → AreAscending (tags ps) → canonised ps ≡ ps
ascending_parts no_parts h = refl
ascending_parts (part t p s ps) h = rw (h.0, ascending_parts ps h.1) refl
