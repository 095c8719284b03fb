-- Items of an ENUMERATED, seen from the bits that are left (X.691 14).
use Rattle.std.proofs.Common.{◌≡◌, ◌∙◌, refl, sym, ap, subst, ℕ, zero, suc, ◌+◌, ◌-◌, ◌^◌, ◌<◌, ◌≤◌, Bool, true, false, ◌∷◌, Option, Some, None, arith, inl, inr}
use Rattle.std.specs.Prelude.{Ok, IfSome}
use Rattle.rasn_types.specs.Bits.{Bits, width, width_from}
use Rattle.rasn_types.specs.Values.{Value, item, Side, root, added}
use Rattle.rasn_types.specs.Variants.{Variant, aligned, unaligned}
use Rattle.per_core.specs.Basic.{ExtensionBit, Item, IsSemiConstrainedWhole, Small, constrained_by, constrained_form}
use Rattle.per_core.specs.Spellings.{Settings, Spelling, When, BitField, Took, NoneIn}
use Rattle.per_core.proofs.SpellingsAgree.{Agree, field_agree}
use Rattle.per_core.proofs.LengthForms.{bounded_form_agree}
use Rattle.per_core.proofs.TakenInTurn.{took_then, then_took, took_map, took_agree, nothing_took}
use Rattle.per_core.proofs.Unique.{in_natural_agree, marked_agree}
use Rattle.per_decoding.specs.Enumerations.{IsMissing, IsOfPlace, IsThere, item_form, root_in_field, side_of}
use Rattle.per_core.specs.IndexFaults.{IsOfExtension, IsOfItem, IsOfPlaces, IsPlace, count_of, place_form}
use Rattle.per_core.specs.BitFieldFaults.{IsOfBitField, IsOfMarked, IsOfUnconstrained}
use Rattle.per_read.specs.Kinds.{IsTested}
use Rattle.per_core.specs.NumberFaults.{IsOfConstrained, IsOfConstrainedBy, small_form}
use Rattle.per_read.specs.Numbers.{in_one_field}
use Rattle.per_read.specs.SmallNumbers.{OfIndex}
use Rattle.per_read.specs.ReaderState.{ReaderState, settings_of}
use Rattle.per_read.specs.Takes.{Takes, tested}
use Rattle.per_core.specs.declared.decode_error.DecodeErrorKind.{DecodeErrorKind}
use Rattle.per_core.specs.declared.decode_error.DecodeErrorKind.TheVariants.{EnumerationIndexNotFound, IntegerOverflow}
use Rattle.per_core.specs.declared.decode_error.DecodeErrorKind.TheVariants.{UnexpectedEmptyInput}
use Rattle.per_read.proofs.Calls.{of_short}
use Rattle.per_read.proofs.Fields.{exactly_took, when_took}
use Rattle.per_read.proofs.OfFields.{constrained_tested, marked_tested, unconstrained_tested}
use Rattle.per_read.proofs.SmallForms.{small_took, took_small}

-- what a kind says of an extension bit and a place, which tests show too
pub small_tested : (a : Settings) (s : Bits) (k : DecodeErrorKind) → IsOfMarked true (IsOfBitField 6) (IsOfUnconstrained a 8) s k → IsTested k
small_tested a s k h = marked_tested (IsOfBitField 6) (IsOfUnconstrained a 8) true s k (λ t x. of_short k x) (λ t x. unconstrained_tested k x) h

pub places_tested : (a : Settings) (r : ℕ) (ext : Bool) (s : Bits) (k : DecodeErrorKind) → IsOfPlaces a r ext s k → IsTested k
places_tested a r ext s k h =
    marked_tested (IsOfConstrained a r) (IsOfMarked true (IsOfBitField 6) (IsOfUnconstrained a 8)) ext s k (λ t x. constrained_tested a r t k x) (λ t x. small_tested a t k x) h

pub of_extension : (a : Settings) (r : ℕ) (ext : Bool) (s : Bits) (k : DecodeErrorKind) → IsOfExtension ext s k → IsOfPlaces a r ext s k
of_extension a r true s k h = inl h
of_extension a r false s k h = absurd h

pub of_root : (a : Settings) (r : ℕ) (ext : Bool) {s m : Bits} (k : DecodeErrorKind) → Took (ExtensionBit ext false) s m → IsOfConstrained a r m k → IsOfPlaces a r ext s k
of_root a r true {m = m} k bit h = inr (inl (m, bit, h))
of_root a r false {s} {m} k bit h = subst (λ z. IsOfConstrained a r z k) (sym (nothing_took bit)) h

pub of_added : (a : Settings) (r : ℕ) (ext : Bool) {s m : Bits} (k : DecodeErrorKind) → Took (ExtensionBit ext true) s m → IsOfMarked true (IsOfBitField 6) (IsOfUnconstrained a 8) m k → IsOfPlaces a r ext s k
of_added a r true {m = m} k bit h = inr (inr (m, bit, h))
of_added a r false k bit h = absurd bit.spelled

-- and so of an item
pub of_places : (a : Settings) (r e : ℕ) (ext : Bool) (s : Bits) (k : DecodeErrorKind) → IsOfPlaces a r ext s k → IsOfItem a r e ext s k
of_places a r e ext s UnexpectedEmptyInput h = absurd (places_tested a r ext s UnexpectedEmptyInput h)
of_places a r e ext s (EnumerationIndexNotFound i b) h = absurd (places_tested a r ext s (EnumerationIndexNotFound i b) h)
of_places a r e ext s (IntegerOverflow w) h = absurd (places_tested a r ext s (IntegerOverflow w) h)
of_places a r e ext s _ h = h

-- one of no numbers is written as one of one
no_numbers : (v : Variant) (a : Settings) (o : ℕ) → constrained_by v a 1 o ≡ constrained_by v a 0 o
unfolding width width_from
no_numbers unaligned a o = refl
no_numbers aligned a o = refl

pub root_form : (a : Settings) (n g o : ℕ) → g ≡ n - 1 → constrained_form a (g + 1) o ≡ constrained_form a n o
root_form a zero g o e = ap (λ (k : ℕ). constrained_form a (k + 1) o) {x = g} {y = 0} (omega arith) ∙ no_numbers a.variant a o
root_form a (suc n) g o e = ap (λ (k : ℕ). constrained_form a k o) (omega arith)

no_numbers_said : (v : Variant) (a : Settings) (s : Bits) (k : DecodeErrorKind) → IsOfConstrainedBy v a 1 s k ≡ IsOfConstrainedBy v a 0 s k
unfolding width width_from
no_numbers_said unaligned a s k = refl
no_numbers_said aligned a s k = refl

pub root_said : (a : Settings) (n g : ℕ) (s : Bits) (k : DecodeErrorKind) → g ≡ n - 1 → IsOfConstrained a (g + 1) s k → IsOfConstrained a n s k
root_said a zero g s k e h =
    let i : g + 1 ≡ 1 = omega (arith, e) in
    subst (λ z. z) (no_numbers_said a.variant a s k) (subst (λ (n : ℕ). IsOfConstrained a n s k) i h)
root_said a (suc n) g s k e h = let i : g + 1 ≡ suc n = omega (arith, e) in subst (λ (n : ℕ). IsOfConstrained a n s k) i h

-- a place is read in one way
place_agree : (a : Settings) (n : ℕ) (b : Bool) (i j : ℕ) → Agree (i ≡ j) (place_form a n b i) (place_form a n b j)
place_agree a n false i j = bounded_form_agree a n i j
place_agree a n true i j =
    marked_agree (λ (x y : ℕ). x ≡ y) true (BitField 6) (IsSemiConstrainedWhole a) (BitField 6) (IsSemiConstrainedWhole a) i j (field_agree 6 i j) (in_natural_agree a i j)

-- one extension bit
same_extension : (ext b d : Bool) {s m n : Bits} → Took (ExtensionBit ext b) s m → Took (ExtensionBit ext d) s n → (b ≡ d) × (m ≡ n)
same_extension true b d {s} {m} {n} x y =
    let e : b ∷ m ≡ d ∷ n = sym (exactly_took x) ∙ exactly_took y in
    (cc, cc)
same_extension false false false x y = (refl, sym (nothing_took x) ∙ nothing_took y)
same_extension false true d x y = absurd x.spelled
same_extension false false true x y = absurd y.spelled

-- an item at a place
pub item_on : (a : Settings) (r e : ℕ) (ext b : Bool) (i : ℕ) {s m t : Bits} → Took (ExtensionBit ext b) s m → Took (place_form a (count_of r e b) b i) m t → i < count_of r e b → i < 2 ^ 64
    → Took (item_form a r e ext (item (side_of b) i)) s t
item_on a r e ext false i bit p l f =
    took_map (λ q c x. record { of = (root, i); is = refl; spelled = x }) (took_then bit (took_map (λ q c x. record { below = l; spelled = x }) p))
item_on a r e ext true i bit p l f =
    took_map (λ q c x. record { of = (added, i); is = refl; spelled = x }) (took_then bit (took_map (λ q c x. record { known = l; spelled = x }) (small_took a i f p)))

-- the place of an item that is read after an extension bit
record Placed (a : Settings) (n : ℕ) (b : Bool) (m t : Bits) : Type 0 where
  index : ℕ
  below : index < n
  took : Took (place_form a n b index) m t

item_back : (a : Settings) (r e : ℕ) (ext b : Bool) (v : Value) {s m t : Bits} → Took (ExtensionBit ext b) s m → Took (item_form a r e ext v) s t → Placed a (count_of r e b) b m t
item_back a r e ext b v {s} {m} {t} bit h = go b (h.spelled.of).0 (h.spelled.of).1 bit (record { front = h.front; joins = h.joins; spelled = h.spelled.spelled })
  where
    go : (b : Bool) (d : Side) (i : ℕ) → Took (ExtensionBit ext b) s m → Took (Item a r e ext d i) s t → Placed a (count_of r e b) b m t
    go false root i bit k =
        let q = then_took k in
        let p : Took (constrained_form a r i) q.0 t = took_map (λ c x y. y.spelled) q.2 in
        record { index = i; below = q.2.spelled.below; took = subst (λ z. Took (constrained_form a r i) z t) (same_extension ext false false q.1 bit).1 p }
    go true added i bit k =
        let q = then_took k in
        let p : Took (Small a i) q.0 t = took_map (λ c x y. y.spelled) q.2 in
        record { index = i; below = q.2.spelled.known; took = subst (λ z. Took (small_form a i) z t) (same_extension ext true true q.1 bit).1 (took_small a i p) }
    go true root i bit k = let q = then_took k in let d = (same_extension ext false true q.1 bit).0 in absurd cc
    go false added i bit k = let q = then_took k in let d = (same_extension ext true false q.1 bit).0 in absurd cc

-- no item without an extension bit
pub no_extension : (a : Settings) (r e : ℕ) (ext : Bool) {s : Bits} → NoneIn (ExtensionBit ext) s → NoneIn (item_form a r e ext) s
no_extension a r e ext {s} none v t h = go (h.spelled.of).0 (h.spelled.of).1 (record { front = h.front; joins = h.joins; spelled = h.spelled.spelled })
  where
    go : (d : Side) (i : ℕ) → Took (Item a r e ext d i) s t → ⊥
    go root i k = let q = then_took k in none false q.0 q.1
    go added i k = let q = then_took k in none true q.0 q.1

module _ (a : Settings) (r e : ℕ) (ext b : Bool) {s m : Bits} (bit : Took (ExtensionBit ext b) s m) where
  -- no item without a place
  pub no_place : NoneIn (place_form a (count_of r e b) b) m → NoneIn (item_form a r e ext) s
  no_place none v t h = let p = item_back a r e ext b v bit h in none p.index t p.took

  -- and none at a place past those of the list
  pub no_item : (i : ℕ) (t : Bits) → Took (place_form a (count_of r e b) b i) m t → count_of r e b ≤ i → NoneIn (item_form a r e ext) s
  no_item i t k l v u h =
      let p = item_back a r e ext b v bit h in
      let same : p.index ≡ i = (took_agree (place_agree a (count_of r e b) b p.index i) p.took k).0 in
      omega (arith, p.below, same, l)

  pub place_faulty : (k : DecodeErrorKind) → IsOfPlace a (count_of r e b) b m k × NoneIn (place_form a (count_of r e b) b) m → IsOfItem a r e ext s k × NoneIn (item_form a r e ext) s
  place_faulty k h = (go b bit k h.0, no_place h.1)
    where
      go : (b : Bool) → Took (ExtensionBit ext b) s m → (k : DecodeErrorKind) → IsOfPlace a (count_of r e b) b m k → IsOfItem a r e ext s k
      go false bit k h = of_places a r e ext s k (of_root a r ext k bit h)
      go true bit UnexpectedEmptyInput h = (h.0, took_then bit h.1)
      go true bit (EnumerationIndexNotFound i x) h = absurd (small_tested a m (EnumerationIndexNotFound i x) h)
      go true bit (IntegerOverflow w) h = absurd (small_tested a m (IntegerOverflow w) h)
      go true bit k h = of_added a r ext k bit h

  -- a place that is read, and the item that is there
  pub item_there : {E : Type 0} (value : E → Value) (place : Option ℕ) (x : E) {t : Bits} → count_of r e b < 2 ^ 64 → OfIndex (λ i. Took (place_form a (count_of r e b) b i) m t) place → IsThere value (count_of r e b) b place x
      → Took (item_form a r e ext (value x)) s t
  item_there value place x {t} few p h =
      let k : Took (place_form a (count_of r e b) b h.index) m t = subst (λ o. OfIndex (λ i. Took (place_form a (count_of r e b) b i) m t) o) h.is_place p in
      subst (λ v. Took (item_form a r e ext v) s t) (sym h.is) (item_on a r e ext b h.index bit k h.below (omega (arith, h.below, few)))

  -- or where none stands
  pub item_missing : (place : Option ℕ) (k : DecodeErrorKind) (t : Bits) → count_of r e b < 2 ^ 64 → OfIndex (λ i. Took (place_form a (count_of r e b) b i) m t) place → IsMissing (count_of r e b) b place k
      → IsOfItem a r e ext s k × NoneIn (item_form a r e ext) s
  item_missing place (EnumerationIndexNotFound i x) t few p h =
      let k : Took (place_form a (count_of r e b) b i) m t = subst (λ o. OfIndex (λ i. Took (place_form a (count_of r e b) b i) m t) o) h.0 p in
      (subst (λ z. (count_of r e z ≤ i) × IsPlace a (count_of r e z) ext z i s) (sym h.1) (h.2, record { rest = t; took = took_then bit k }), no_item i t k h.2)
  item_missing place (IntegerOverflow w) t few p h =
      let k = subst (λ o. OfIndex (λ i. Took (place_form a (count_of r e b) b i) m t) o) h.0 p in
      ((h.1, (b, k.0, k.1, record { rest = t; took = took_then bit k.2 })), no_item k.0 t k.2 (omega (arith, few, k.1)))
  item_missing place _ t few p h = absurd h

-- a place in a field that a `usize` holds
pub short_place : (form : Settings → ℕ → Spelling) (x y : ReaderState) (r : Option ℕ) → y.options ≡ x.options → OfIndex (λ i. Took (form (settings_of x) i) x.bits y.bits) r
    → IfSome r (λ i. Takes tested form OfIndex x (Ok (Some i)) y)
short_place form x y None e h = tt
short_place form x y (Some i) e h = record { ok = h; err = tt; kept = e }

-- a place in a list that one field has
abbrev pub place_in_field : Settings → ℕ → ℕ → Spelling
place_in_field a n i = When (i < n) (in_one_field a n i)

pub no_short_place : (a : Settings) (n g : ℕ) {s : Bits} → g ≡ n - 1 → NoneIn (in_one_field a (g + 1)) s → NoneIn (place_in_field a n) s
no_short_place a n g {s} e none i t b =
    let l : i < n = b.spelled.0 in
    none i t (subst (λ (k : ℕ). Took (in_one_field a k i) s t) (omega (arith, l, e)) (when_took b).1)

-- where a place past the list is read, none stands
pub no_place_past : (a : Settings) (n i : ℕ) {s t : Bits} → Took (constrained_form a n i) s t → n ≤ i → NoneIn (place_in_field a n) s
no_place_past a n i b l j u c =
    let same : j ≡ i = (took_agree (bounded_form_agree a n j i) (when_took (when_took c).1).1 b).0 in
    let below : j < n = c.spelled.0 in
    omega (arith, below, same, l)

pub no_place_held : (a : Settings) (n : ℕ) (r : Option ℕ) {s : Bits} (t : Bits) → n < 2 ^ 64 → OfIndex (λ i. Took (constrained_form a n i) s t) r → r ≡ None → NoneIn (place_in_field a n) s
no_place_held a n r {s} t few h e =
    let k = subst (λ o. OfIndex (λ i. Took (constrained_form a n i) s t) o) e h in
    no_place_past a n k.0 k.2 (omega (arith, few, k.1))

-- no item or alternative of the root in one field
module _ (a : Settings) (r e : ℕ) (ext : Bool) {s : Bits} where
  -- without an extension bit, or after a bit 1
  pub no_root_bit : NoneIn (ExtensionBit ext) s → NoneIn (root_in_field a r e ext) s
  no_root_bit none i t b = let q = then_took (when_took b).1 in none false q.0 q.1

  pub no_root_added : {m : Bits} → Took (ExtensionBit ext true) s m → NoneIn (root_in_field a r e ext) s
  no_root_added bit i t b = let q = then_took (when_took b).1 in let d = (same_extension ext false true q.1 bit).0 in cc

  -- without a place
  pub no_root_place : {m : Bits} → Took (ExtensionBit ext false) s m → NoneIn (place_in_field a r) m → NoneIn (root_in_field a r e ext) s
  no_root_place bit none i t b =
      let w = when_took b in
      let q = then_took w.1 in
      let p : Took (place_in_field a r i) q.0 t = took_map (λ c x y. (y.below, (w.0, y.spelled))) q.2 in
      none i t (subst (λ z. Took (place_in_field a r i) z t) (same_extension ext false false q.1 bit).1 p)

-- where no item is found at a place, it is past the list
pub missing_past : (n i : ℕ) (k : DecodeErrorKind) → IsMissing n false (Some i) k → n ≤ i
missing_past n i (EnumerationIndexNotFound j b) h = let same : Some i ≡ Some j = h.0 in let e : i ≡ j = cc in omega (arith, e, h.2)
missing_past n i (IntegerOverflow w) h = absurd (let none : Some i ≡ None = h.0 in cc)
missing_past n i _ h = absurd h
