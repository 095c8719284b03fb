-- The index of a CHOICE, seen from the bits that are left (X.691 23.5 to 23.8).
use Rattle.std.proofs.Common.{◌≡◌, refl, sym, subst, ℕ, ◌^◌, ◌<◌, ◌≤◌, Bool, true, false, Option, Some, None, arith}
use Rattle.rasn_types.specs.Bits.{Bits}
use Rattle.rasn_types.specs.Values.{Side, item}
use Rattle.per_core.specs.Basic.{ExtensionBit, Item}
use Rattle.per_core.specs.Spellings.{Settings, Took, NoneIn}
use Rattle.per_core.proofs.TakenInTurn.{took_then, took_map}
use Rattle.per_decoding.specs.ChoiceIndexes.{IsKnown, IsUnknown}
use Rattle.per_core.specs.IndexFaults.{IsOfIndex, index_form, IsOfPlaces, count_of, place_form}
use Rattle.per_decoding.specs.Enumerations.{IsOfPlace, item_form, side_of}
use Rattle.per_read.specs.SmallNumbers.{OfIndex}
use Rattle.per_core.specs.declared.decode_error.DecodeErrorKind.{DecodeErrorKind}
use Rattle.per_core.specs.declared.decode_error.DecodeErrorKind.TheVariants.{ChoiceIndexExceedsPlatformWidth}
use Rattle.per_core.specs.declared.decode_error.DecodeErrorKind.TheVariants.{ChoiceIndexNotFound, UnexpectedEmptyInput}
use Rattle.per_decoding.proofs.Enumerations.{item_on, no_extension as no_item_bit, no_item, no_place as no_item_place, of_added, of_root, places_tested, small_tested}

-- what a kind says of an extension bit and a place, it says of an index
pub places_index : (a : Settings) (r e : ℕ) (ext : Bool) (s : Bits) (k : DecodeErrorKind) → IsOfPlaces a r ext s k → IsOfIndex a r e ext s k
places_index a r e ext s (ChoiceIndexNotFound i) h = absurd (places_tested a r ext s (ChoiceIndexNotFound i) h)
places_index a r e ext s ChoiceIndexExceedsPlatformWidth h = absurd (places_tested a r ext s ChoiceIndexExceedsPlatformWidth h)
places_index a r e ext s UnexpectedEmptyInput h = absurd (places_tested a r ext s UnexpectedEmptyInput h)
places_index a r e ext s _ h = h

-- an index is an item of as many
as_item : (a : Settings) (r e : ℕ) (ext : Bool) (d : Side) (i : ℕ) {s t : Bits} → Took (Item a r e ext d i) s t → Took (item_form a r e ext (item d i)) s t
as_item a r e ext d i h = took_map (λ p c y. record { of = (d, i); is = refl; spelled = y }) h

of_item : (a : Settings) (r e : ℕ) (ext : Bool) (d : Side) (i : ℕ) {s t : Bits} → Took (item_form a r e ext (item d i)) s t → Took (Item a r e ext d i) s t
of_item a r e ext d i {s} {t} h = go (h.spelled.of).0 (h.spelled.of).1 h.spelled.is (record { front = h.front; joins = h.joins; spelled = h.spelled.spelled })
  where
    go : (b : Side) (j : ℕ) → item d i ≡ item b j → Took (Item a r e ext b j) s t → Took (Item a r e ext d i) s t
    go b j same k = let f : b ≡ d = cc in let g : j ≡ i = cc in subst (λ z. Took (Item a r e ext z i) s t) f (subst (λ (z : ℕ). Took (Item a r e ext b z) s t) g k)

none_of : (a : Settings) (r e : ℕ) (ext : Bool) {s : Bits} → NoneIn (item_form a r e ext) s → NoneIn (index_form a r e ext) s
none_of a r e ext none x t h = none (item x.0 x.1) t (as_item a r e ext x.0 x.1 h)

-- no index without an extension bit
pub no_extension : (a : Settings) (r e : ℕ) (ext : Bool) {s : Bits} → NoneIn (ExtensionBit ext) s → NoneIn (index_form a r e ext) s
no_extension a r e ext none = none_of a r e ext (no_item_bit a r e ext none)

module _ (a : Settings) (r e : ℕ) (ext b : Bool) {s m : Bits} (bit : Took (ExtensionBit ext b) s m) where
  -- none without a place
  pub place_faulty : (k : DecodeErrorKind) → IsOfPlace a (count_of r e b) b m k × NoneIn (place_form a (count_of r e b) b) m → IsOfIndex a r e ext s k × NoneIn (index_form a r e ext) s
  place_faulty k h = (go b bit k h.0, none_of a r e ext (no_item_place a r e ext b bit h.1))
    where
      go : (b : Bool) → Took (ExtensionBit ext b) s m → (k : DecodeErrorKind) → IsOfPlace a (count_of r e b) b m k → IsOfIndex a r e ext s k
      go false bit k h = places_index a r e ext s k (of_root a r ext k bit h)
      go true bit UnexpectedEmptyInput h = (h.0, took_then bit h.1)
      go true bit (ChoiceIndexNotFound i) h = absurd (small_tested a m (ChoiceIndexNotFound i) h)
      go true bit ChoiceIndexExceedsPlatformWidth h = absurd (small_tested a m ChoiceIndexExceedsPlatformWidth h)
      go true bit k h = of_added a r ext k bit h

  -- a place that is read, and the alternative that is there
  pub index_there : (place : Option ℕ) (x : Side × ℕ) {t : Bits} → count_of r e b < 2 ^ 64 → OfIndex (λ i. Took (place_form a (count_of r e b) b i) m t) place → IsKnown (count_of r e b) b place x
      → Took (index_form a r e ext x) s t
  index_there place x {t} few p h =
      let k : Took (place_form a (count_of r e b) b h.index) m t = subst (λ o. OfIndex (λ i. Took (place_form a (count_of r e b) b i) m t) o) h.is_place p in
      subst (λ z. Took (index_form a r e ext z) s t) (sym h.is) (of_item a r e ext (side_of b) h.index (item_on a r e ext b h.index bit k h.below (omega (arith, h.below, few))))

  -- or where none stands
  pub index_missing : (place : Option ℕ) (k : DecodeErrorKind) (t : Bits) → count_of r e b < 2 ^ 64 → OfIndex (λ i. Took (place_form a (count_of r e b) b i) m t) place → IsUnknown (count_of r e b) place k
      → IsOfIndex a r e ext s k × NoneIn (index_form a r e ext) s
  index_missing place (ChoiceIndexNotFound i) t few p h =
      let k : Took (place_form a (count_of r e b) b i) m t = subst (λ o. OfIndex (λ i. Took (place_form a (count_of r e b) b i) m t) o) h.0 p in
      ((b, h.1, record { rest = t; took = took_then bit k }), none_of a r e ext (no_item a r e ext b bit i t k h.1))
  index_missing place ChoiceIndexExceedsPlatformWidth t few p h =
      let k = subst (λ o. OfIndex (λ i. Took (place_form a (count_of r e b) b i) m t) o) h p in
      ((b, k.0, k.1, record { rest = t; took = took_then bit k.2 }), none_of a r e ext (no_item a r e ext b bit k.0 t k.2 (omega (arith, few, k.1))))
  index_missing place _ t few p h = absurd h

-- where no alternative is found at a place, it is past the list
pub unknown_past : (n i : ℕ) (k : DecodeErrorKind) → IsUnknown n (Some i) k → n ≤ i
unknown_past n i (ChoiceIndexNotFound j) h = let same : Some i ≡ Some j = h.0 in let e : i ≡ j = cc in omega (arith, e, h.1)
unknown_past n i ChoiceIndexExceedsPlatformWidth h = absurd (let none : Some i ≡ None = h in cc)
unknown_past n i _ h = absurd h
