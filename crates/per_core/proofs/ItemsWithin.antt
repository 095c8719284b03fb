-- Each value within what is spelled has few items.
use Rattle.std.proofs.Common.{◌≡◌, sym, subst, ℕ, zero, suc, ◌≤◌, ◌⊎◌, Bool, List, [], ◌∷◌, length, arith, inl, inr, Option, Some, None}
use Rattle.rasn_types.specs.Bits.{Bits}
use Rattle.rasn_types.specs.Values.{Value, bag_of, alternative, Side, root, added, before, code, sorted}
use Rattle.rasn_types.proofs.Values.{values-as_values, slots-as_slots}
use Rattle.rasn_schema.specs.Schemas
use Rattle.rasn_schema.specs.Schemas.{Schema, Parts, no_parts, part, tags}
use Rattle.per_core.specs.Basic.{Rule, IsLeftOut, Choice, Chosen, basic_in, rules_in}
use Rattle.per_core.specs.Counts.{list_items}
use Rattle.per_core.specs.Spellings.{Settings}
use Rattle.per_core.specs.Writers.{after}
use Rattle.per_core.specs.ItemCounts.{item_count, most_items, Each, EachElement, OfParts, OfAlternative, HasAtMost}
use Rattle.per_core.specs.ItemCounts.{PartsHaveAtMost, AlternativeHasAtMost}
use Rattle.per_core.proofs.LengthCounts.{then_length}
use Rattle.per_core.proofs.ItemCounts.{items_few}
use Rattle.per_core.proofs.HeldIn.{HeldIn, SlotHeld, SlotsHeld, lengthy_held, open_held, fields_held, all_sorted, each_map}

-- a value's own items
own_few : (n m : ℕ) (a : Settings) (u : Bool) (s : Schema) (v : Value) → most_items m ≤ n → HeldIn m (basic_in a u s v) → item_count v ≤ n
own_few n m a u s v h x = let r = items_few a u s v x.at x.bits x.spelled in let f = x.fits in omega arith

-- a fact of what a slot holds
of_slot : (m : ℕ) (r : Rule) (P : Value → Type 0) → ((v : Value) → HeldIn m (r.spells v) → P v) → (v : Value) → SlotHeld m r (Some v) → IsLeftOut r.presence (Some v) ⊎ P v
of_slot m r P f v (inl l) = inl l
of_slot m r P f v (inr y) = let e : ◌≡◌ {A = Option Value} (Some v) (Some y.0) = y.1 in let i : y.0 ≡ v = cc in inr (subst P i (f y.0 y.2))

-- facts of the alternative that is chosen
of_alternative : (m : ℕ) (a : Settings) (ext : Bool) (rs adds : List Rule) (P Q : ℕ → Value → Type 0) → ((i : ℕ) (w : Value) → HeldIn m (Chosen rs i w) → P i w)
    → ((i : ℕ) (w : Value) → HeldIn m (Chosen adds i w) → Q i w) → (d : Side) (i : ℕ) (w : Value) (p : ℕ) (b : Bits) → length b ≤ m → Choice a ext rs adds d i w p b → OfAlternative P Q (alternative d i w)
of_alternative m a ext rs adds P Q f g root i w p b h x =
    let y = x.is_rest in
    let l = then_length x in
    let n = then_length y in
    f i w (record { at = after (after p x.front) y.front; bits = y.rest; fits = omega arith; spelled = y.is_rest })
of_alternative m a ext rs adds P Q f g added i w p b h x =
    let y = x.is_rest in
    let l = then_length x in
    let n = then_length y in
    g i w (open_held a m (Chosen adds i w) (after (after p x.front) y.front) y.rest (omega arith) y.is_rest)

mutual
  unfolding HasAtMost PartsHaveAtMost AlternativeHasAtMost basic_in rules_in bag_of

  -- all kinds
  pub few_within : (n m : ℕ) (a : Settings) (u : Bool) (s : Schema) (v : Value) → most_items m ≤ n → HeldIn m (basic_in a u s v) → HasAtMost n s v
  few_within n m a u (Schema.containing e) v h x = few_within n m a u e v h (open_held a m (basic_in a u e v) x.at x.bits x.fits x.spelled)
  few_within n m a u (Schema.list e size mark) v h x =
      let y = x.spelled in
      let each = lengthy_held a m (basic_in a u e) size mark list_items y.of x.at x.bits x.fits y.spelled in
      let all : Each (HasAtMost n e) y.of = each_map (λ w. HeldIn m (basic_in a u e w)) (HasAtMost n e) (λ w k. few_within n m a u e w h k) y.of each in (
        own_few n m a u (Schemas.list e size mark) v h x,
        subst (EachElement (HasAtMost n e)) (sym y.is) (subst (Each (HasAtMost n e)) (sym (values-as_values y.of)) all),
      )
  few_within n m a u (Schema.set_of e size mark) v h x =
      let y = x.spelled in
      let each = lengthy_held a m (basic_in a u e) size mark list_items y.of x.at x.bits x.fits y.spelled in
      let all : Each (HasAtMost n e) y.of = each_map (λ w. HeldIn m (basic_in a u e w)) (HasAtMost n e) (λ w k. few_within n m a u e w h k) y.of each in
      let less : Value → Value → Bool = λ v w. before (code v) (code w) in (
        own_few n m a u (Schemas.set_of e size mark) v h x,
        subst (EachElement (HasAtMost n e)) (sym y.is) (subst (Each (HasAtMost n e)) (sym (values-as_values (sorted less y.of))) (all_sorted (HasAtMost n e) less y.of all)),
      )
  few_within n m a u (Schema.sequence o ps ext adds) v h x =
      let y = x.spelled in
      let r = fields_held m a u ext o (tags ps) (rules_in a u ps) (rules_in a u adds) y.of.0 y.of.1 x.at x.bits x.fits y.spelled in (
        own_few n m a u (Schemas.sequence o ps ext adds) v h x,
        subst (OfParts (PartsHaveAtMost n ps) (PartsHaveAtMost n adds)) (sym y.is) (
          subst (PartsHaveAtMost n ps) (sym (slots-as_slots y.of.0)) (few_in_parts n m a u ps y.of.0 h r.0),
          subst (PartsHaveAtMost n adds) (sym (slots-as_slots y.of.1)) (few_in_parts n m a u adds y.of.1 h r.1),
        ),
      )
  few_within n m a u (Schema.choice ps adds ext) v h x =
      let y = x.spelled in (
        own_few n m a u (Schemas.choice ps adds ext) v h x,
        subst (OfAlternative (AlternativeHasAtMost n ps) (AlternativeHasAtMost n adds)) (sym y.is)
            (of_alternative m a ext (rules_in a u ps) (rules_in a u adds) (AlternativeHasAtMost n ps) (AlternativeHasAtMost n adds)
            (λ i w k. few_in_alternative n m a u ps i w h k) (λ i w k. few_in_alternative n m a u adds i w h k) y.of.0 y.of.1 y.of.2 x.at x.bits x.fits y.spelled),
      )
  few_within n m a u Schema.boolean v h x = own_few n m a u Schemas.boolean v h x
  few_within n m a u Schema.null v h x = own_few n m a u Schemas.null v h x
  few_within n m a u Schema.real v h x = own_few n m a u Schemas.real v h x
  few_within n m a u Schema.any v h x = own_few n m a u Schemas.any v h x
  few_within n m a u Schema.identifier v h x = own_few n m a u Schemas.identifier v h x
  few_within n m a u Schema.date v h x = own_few n m a u Schemas.date v h x
  few_within n m a u Schema.cut v h x = own_few n m a u Schemas.cut v h x
  few_within n m a u (Schema.text kind) v h x = own_few n m a u (Schemas.text kind) v h x
  few_within n m a u (Schema.time kind) v h x = own_few n m a u (Schemas.time kind) v h x
  few_within n m a u (Schema.number bounds mark range) v h x = own_few n m a u (Schemas.number bounds mark range) v h x
  few_within n m a u (Schema.items r e ext) v h x = own_few n m a u (Schemas.items r e ext) v h x
  few_within n m a u (Schema.octet_string size mark) v h x = own_few n m a u (Schemas.octet_string size mark) v h x
  few_within n m a u (Schema.bit_string size mark named) v h x = own_few n m a u (Schemas.bit_string size mark named) v h x
  few_within n m a u (Schema.char_string alphabet size mark) v h x = own_few n m a u (Schemas.char_string alphabet size mark) v h x

  -- parts and additions
  few_in_parts : (n m : ℕ) (a : Settings) (u : Bool) (ps : Parts) (ss : List (Option Value)) → most_items m ≤ n → SlotsHeld m (rules_in a u ps) ss → PartsHaveAtMost n ps ss
  few_in_parts n m a u no_parts ss h x = tt
  few_in_parts n m a u (part t p s ps) [] h x = tt
  few_in_parts n m a u (part t p s ps) (None ∷ ss) h x = few_in_parts n m a u ps ss h x.1
  few_in_parts n m a u (part t p s ps) (Some v ∷ ss) h x =
      (of_slot m (record { presence = p; spells = basic_in a u s }) (HasAtMost n s) (λ w k. few_within n m a u s w h k) v x.0, few_in_parts n m a u ps ss h x.1)

  -- the alternative at a place
  few_in_alternative : (n m : ℕ) (a : Settings) (u : Bool) (ps : Parts) (i : ℕ) (v : Value) → most_items m ≤ n → HeldIn m (Chosen (rules_in a u ps) i v) → AlternativeHasAtMost n ps i v
  few_in_alternative n m a u no_parts i v h x = tt
  few_in_alternative n m a u (part t p s ps) zero v h x = few_within n m a u s v h x
  few_in_alternative n m a u (part t p s ps) (suc i) v h x = few_in_alternative n m a u ps i v h x

-- a value's own items, and those of each value within it
abbrev pub Few : ℕ → Schema → Value → Type 0
Few n s v = (item_count v ≤ n) × HasAtMost n s v

pub few : (a : Settings) (u : Bool) (s : Schema) (v : Value) (p : ℕ) (b : Bits) (m : ℕ) → length b ≤ m → basic_in a u s v p b → Few (most_items m) s v
few a u s v p b m h x =
    let y : HeldIn m (basic_in a u s v) = record { at = p; bits = b; fits = h; spelled = x } in
    let l : most_items m ≤ most_items m = omega arith in
    (own_few (most_items m) m a u s v l y, few_within (most_items m) m a u s v l y)
