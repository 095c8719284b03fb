-- What is read of each component, and the SET that is made of the items.
use Rattle.std.proofs.Common.{◌≡◌, refl, sym, ap, subst, ◌∙◌, ℕ, List, [], ◌∷◌, ◌++◌, append-nil, map, Result, Ok, Option, Some, None}
use Rattle.rasn_below.specs.Values.{Value, truth}
use Rattle.rasn_below.specs.Components.{fields_in, parts_of}
use Rattle.rasn_below.specs.Types.{canonised, canonised_slots, in_tag_order, TagTree, smallest, Presence, optional, Schema, no_parts}
use Rattle.rasn_below.specs.Calls.{Codec, DecoderRules, left_out, Gathers, gathers_end, gathers_gap, gathers_item, IsMade, StandsAt, stands_after, stands_first}
use Rattle.per_samples_sets.specs.Each.{none, set_each, set_each_contents, with_items}
use Rattle.per_samples_sets.specs.declared.set_each.Item.{Item}
use Rattle.per_samples_sets.specs.declared.set_each.SetEach.{SetEach}

-- the place of an item, and what it is
abbrev pub place : Item → ℕ
place x = x.index

abbrev pub slot : Item → Option Value
slot x = Some (truth x.value)

-- each component is a BOOLEAN
pub is_boolean : (n : ℕ) {k : TagTree} {p : Presence} {c : Schema} {i : ℕ} → StandsAt k p c i (parts_of set_each n) → c ≡ Schema.boolean
is_boolean n stands_first = refl
is_boolean n (stands_after stands_first) = refl
is_boolean n (stands_after (stands_after stands_first)) = refl
is_boolean n (stands_after (stands_after (stands_after h))) = elim h [ ]

-- there are no additions
pub none_after : {k : TagTree} {p : Presence} {c : Schema} {i : ℕ} → StandsAt k p c i no_parts → ⊥
none_after h = elim h [ ]

-- nothing stands for a component that is left out
left_out_is : (r : Option Value) → left_out optional ≡ Some r → r ≡ None
left_out_is r h = cc

-- what the items make
made_of : (n : ℕ) {xs : List Item} {rs : List (Option Value)} → Gathers place slot (in_tag_order (fields_in set_each)) (canonised (parts_of set_each n)) xs rs
    → canonised_slots (parts_of set_each n) (set_each_contents (with_items none xs)) ≡ rs
unfolding smallest
made_of n (gathers_item e (gathers_item f (gathers_item g gathers_end))) = rw (e, f, g) refl
made_of n (gathers_item e (gathers_item f (gathers_gap {r = t} i gathers_end))) = rw (e, f, left_out_is t i) refl
made_of n (gathers_item e (gathers_gap {r = t} i (gathers_item g gathers_end))) = rw (e, g, left_out_is t i) refl
made_of n (gathers_item e (gathers_gap {r = t} i (gathers_gap {r = u} j gathers_end))) = rw (e, left_out_is t i, left_out_is u j) refl
made_of n (gathers_gap {r = t} i (gathers_item f (gathers_item g gathers_end))) = rw (f, g, left_out_is t i) refl
made_of n (gathers_gap {r = t} i (gathers_item f (gathers_gap {r = u} j gathers_end))) = rw (f, left_out_is t i, left_out_is u j) refl
made_of n (gathers_gap {r = t} i (gathers_gap {r = u} j (gathers_item g gathers_end))) = rw (g, left_out_is t i, left_out_is u j) refl
made_of n (gathers_gap {r = t} i (gathers_gap {r = u} j (gathers_gap {r = v} k gathers_end))) = rw (left_out_is t i, left_out_is u j, left_out_is v k) refl

pub made : {E S : Type 0} (rules : DecoderRules E S) (codec : Codec) (n : ℕ) (xs ys zs : List Item) (rs : List (Option Value)) (r : Result SetEach E)
    → Gathers place slot (in_tag_order (fields_in set_each)) (canonised (parts_of set_each n)) xs rs → map place ys ≡ [] → zs ≡ xs ++ ys
    → r ≡ Ok (with_items none zs) → IsMade rules codec (parts_of set_each n) set_each_contents (λ (x : SetEach). []) rs (map slot ys) r
made rules codec n xs [] zs rs r a d e f =
    subst (λ q. IsMade rules codec (parts_of set_each n) set_each_contents (λ (x : SetEach). []) rs [] q) (sym f)
    (ap (λ ws. canonised_slots (parts_of set_each n) (set_each_contents (with_items none ws))) (e ∙ append-nil xs) ∙ made_of n a, refl)
made rules codec n xs (y ∷ ys) zs rs r a d e f = absurd cc
