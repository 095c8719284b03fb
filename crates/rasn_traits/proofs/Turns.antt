-- The components of a record that were presented as they are listed are as many as it takes, over any encoder.
use Rattle.std.proofs.Common.{◌≡◌, refl, sym, ap, ap₂, ◌∙◌, subst, ℕ, suc, ◌+◌, Bool, true, false, List, [], ◌∷◌, Option, Some, None, arith}
use Rattle.rasn_types.specs.Values.{Value}
use Rattle.rasn_schema.specs.Structures.{has_bit, presence_bits}
use Rattle.rasn_schema.specs.Schemas.{count, default, group, no_parts, optional, part, Parts, Presence, required, Schema}
use Rattle.rasn_traits.specs.Additions.{PresentsAddition, presents_added, presents_skipped, PresentsAdditions, presents_no_more, presents_further}
use Rattle.rasn_traits.specs.Calls.{EncoderRules}
use Rattle.rasn_traits.specs.Scopes.{PresentsPart, presents_required, presents_there, presents_left_out, PresentsParts, presents_end, presents_next, PresentsFields, presents_fields}
use Rattle.rasn_traits.specs.Amounts.{Amount, amount_of, no_amount, with_addition, with_bit, with_component}
use Rattle.rasn_traits.specs.Turns.{Came, came_added, came_bit, came_nothing, came_skipped, came_value}

-- a part more, with its presence bit, where it has one
abbrev pub with_part : Presence → Amount → Amount
with_part required a = with_component a
with_part optional a = with_bit false a
with_part group a = with_bit false a
with_part (default d) a = with_bit false a

-- parts more
abbrev pub with_parts : Parts → Amount → Amount
with_parts no_parts a = a
with_parts (part t p s ps) a = with_part p (with_parts ps a)

-- additions more
abbrev pub with_additions : Parts → Amount → Amount
with_additions no_parts a = a
with_additions (part t p s qs) a = with_addition (with_additions qs a)

-- amounts are the same by their numbers
pub same_amount : (a b : Amount) → a.components ≡ b.components → a.bits ≡ b.bits → a.additions ≡ b.additions → a ≡ b
same_amount a b c d e =
    ap₂ (λ (m n : ℕ). record { components = m; bits = n; additions = a.additions }) c d
    ∙ ap (λ (n : ℕ). record { components = b.components; bits = b.bits; additions = n }) e

part_components : (p : Presence) (a : Amount) → (with_part p a).components ≡ suc a.components
part_components required a = refl
part_components optional a = refl
part_components group a = refl
part_components (default d) a = refl

part_bits : (p : Presence) (a : Amount) → (with_part p a).bits ≡ has_bit p + a.bits
part_bits required a = omega arith
part_bits optional a = omega arith
part_bits group a = omega arith
part_bits (default d) a = omega arith

part_additions : (p : Presence) (a : Amount) → (with_part p a).additions ≡ a.additions
part_additions required a = refl
part_additions optional a = refl
part_additions group a = refl
part_additions (default d) a = refl

components_of : (ps : Parts) (a : Amount) → (with_parts ps a).components ≡ count ps + a.components
components_of no_parts a = omega arith
components_of (part t p s ps) a =
    let e = part_components p (with_parts ps a) in
    let f = components_of ps a in
    omega arith

bits_of : (ps : Parts) (a : Amount) → (with_parts ps a).bits ≡ presence_bits ps + a.bits
bits_of no_parts a = omega arith
bits_of (part t p s ps) a =
    let e = part_bits p (with_parts ps a) in
    let f = bits_of ps a in
    omega arith

additions_of : (ps : Parts) (a : Amount) → (with_parts ps a).additions ≡ a.additions
additions_of no_parts a = refl
additions_of (part t p s ps) a = part_additions p (with_parts ps a) ∙ additions_of ps a

after_components : (qs : Parts) (a : Amount) → (with_additions qs a).components ≡ a.components
after_components no_parts a = refl
after_components (part t p s qs) a = after_components qs a

after_bits : (qs : Parts) (a : Amount) → (with_additions qs a).bits ≡ a.bits
after_bits no_parts a = refl
after_bits (part t p s qs) a = after_bits qs a

after_additions : (qs : Parts) (a : Amount) → (with_additions qs a).additions ≡ count qs + a.additions
after_additions no_parts a = omega arith
after_additions (part t p s qs) a = let e = after_additions qs a in omega arith

module _ {E X : Type 0} (rules : EncoderRules E X) where
  part_came : (p : Presence) (s : Schema) (x m y : X) (r : Option Value) (a : Amount) → PresentsPart rules p s x r m → Came rules a m y → Came rules (with_part p a) x y
  part_came required s x m y r a (presents_required w) c = came_value w c
  part_came required s x m y r a (presents_there e b w) c = absurd cc
  part_came optional s x m y r a (presents_there e b w) c = came_bit b (came_value w c)
  part_came group s x m y r a (presents_there e b w) c = came_bit b (came_value w c)
  part_came (default d) s x m y r a (presents_there e b w) c = came_bit b (came_value w c)
  part_came required s x m y r a (presents_left_out e b) c = absurd cc
  part_came optional s x m y r a (presents_left_out e b) c = came_bit b c
  part_came group s x m y r a (presents_left_out e b) c = came_bit b c
  part_came (default d) s x m y r a (presents_left_out e b) c = came_bit b c

  parts_came : (ps : Parts) (x m y : X) (rs : List (Option Value)) (a : Amount) → PresentsParts rules ps x rs m → Came rules a m y → Came rules (with_parts ps a) x y
  parts_came no_parts x m y rs a presents_end c = c
  parts_came (part t p s ps) x m y (r ∷ rs) a (presents_next {m = n} h k) c = part_came p s x n y r (with_parts ps a) h (parts_came ps n m y rs a k c)
  parts_came (part t p s ps) x m y [] a h c = elim h [ ]

  addition_came : (p : Presence) (s : Schema) (x m y : X) (r : Option Value) (a : Amount) → PresentsAddition rules p s x r m → Came rules a m y → Came rules (with_addition a) x y
  addition_came p s x m y r a (presents_added e w) c = came_added w c
  addition_came p s x m y r a (presents_skipped e w) c = came_skipped w c

  additions_came : (qs : Parts) (x m y : X) (xs : List (Option Value)) (a : Amount) → PresentsAdditions rules qs x xs m → Came rules a m y → Came rules (with_additions qs a) x y
  additions_came no_parts x m y xs a presents_no_more c = c
  additions_came (part t p s qs) x m y (r ∷ xs) a (presents_further {m = n} h k) c = addition_came p s x n y r (with_additions qs a) h (additions_came qs n m y xs a k c)
  additions_came (part t p s qs) x m y [] a h c = elim h [ ]

  pub fields_came : (ps qs : Parts) (x y : X) (rs xs : List (Option Value)) → PresentsFields rules ps qs x rs xs y → Came rules (amount_of ps qs) x y
  fields_came ps qs x y rs xs (presents_fields {m = m} h k) =
      let b = with_additions qs no_amount in
      let c = components_of ps b in
      let d = after_components qs no_amount in
      let e = bits_of ps b in
      let f = after_bits qs no_amount in
      let g = additions_of ps b in
      let i = after_additions qs no_amount in
      subst (λ (a : Amount). Came rules a x y) (same_amount (with_parts ps b) (amount_of ps qs) (omega arith) (omega arith) (omega arith))
      (parts_came ps x m y rs b h (additions_came qs m y y xs no_amount k came_nothing))
