-- Items under a size constraint, and why there are none (X.691 11.9, 16.6, 17.3, 30.4).
use Rattle.std.proofs.Common.{◌≡◌, ◌∙◌, inl, inr, ℕ, true, false, List, [], ◌∷◌, length, sym, ap, Option}
use Rattle.rasn_types.specs.Bits.{Bits}
use Rattle.rasn_constraints.specs.Bounds.{allows, Size, any_size}
use Rattle.per_core.specs.Spellings.{Settings, never, NoneIn}
use Rattle.per_core.specs.Counts.{bits_of, counted_of}
use Rattle.per_read.specs.Items.{TookItems, unconstrained_items, sized_items}
use Rattle.per_core.specs.Lengths.{coded, counted_items}
use Rattle.per_core.specs.BitFieldFaults.{IsOfBitField, IsOfUnconstrained}
use Rattle.per_read.specs.Kinds.{Faulty}
use Rattle.per_core.specs.SizeFaults.{IsOfItems, IsOfUnder}
use Rattle.per_read.specs.Sizes.{items_under}
use Rattle.per_core.specs.declared.items.Item.{Item}
use Rattle.per_core.specs.declared.decode_error.DecodeErrorKind.{DecodeErrorKind}
use Rattle.per_core.specs.declared.decode_error.DecodeErrorKind.TheVariants.{SizeConstraintNotSatisfied}
use Rattle.per_read.proofs.Refusals.{faulty_map}
use Rattle.per_read.proofs.OfFields.{in_marked, of_items, past_marked}
use Rattle.per_read.proofs.Marked.{mark_in, mark_past, in_mark, past_mark, no_mark}
use Rattle.per_read.proofs.SizeForms.{sized_of, of_sized, one_size}

module _ (a : Settings) (i : Item) where
  module _ (size : Size) where
    -- items whose count the size allows
    pub sized_ok : {C : Type 0} {holds : C → C → List ℕ → Type 0} {n : ℕ} {before after : C} {s t : Bits} → allows size n ≡ true → TookItems holds (items_under a size i) n before after s t
        → TookItems holds (sized_items a size i) n before after s t
    sized_ok h b = record {
      codes = b.codes;
      count = b.count;
      added = b.added;
      took = sized_of a (counted_of i) (coded i) b.codes size (ap (allows size) b.count ∙ h) b.took;
    }

    pub none_sized : {s : Bits} → NoneIn (items_under a size i) s → NoneIn (sized_items a size i) s
    none_sized none xs t b = none xs t (of_sized a (counted_of i) (coded i) xs size b)

    -- and items whose count it doesn't
    pub miscounted : {C : Type 0} {holds : C → C → List ℕ → Type 0} {n : ℕ} {before after : C} {s t : Bits} {least most : Option ℕ} → allows size n ≡ false → least ≡ size.least → most ≡ size.most
        → TookItems holds (items_under a size i) n before after s t → IsOfItems a size false i s (SizeConstraintNotSatisfied (record { size = n; lower = least; upper = most })) × NoneIn (sized_items a size i) s
    miscounted {n = n} {s = s} {t = t} h l u b = (
      record { items = b.codes; rest = t; count = b.count; is_least = l; is_most = u; refused = h; took = b.took },
      λ xs v c.
          let e : length xs ≡ length b.codes = one_size a size.least size.most (counted_of i) (bits_of i) xs b.codes s v t (of_sized a (counted_of i) (coded i) xs size c) b.took in
          let g : true ≡ false = sym c.spelled.allowed ∙ ap (allows size) (e ∙ b.count) ∙ h in cc,
    )

    pub none_faulty : {s : Bits} (k : DecodeErrorKind) → Faulty (IsOfUnder a size.least size.most i s) (NoneIn (items_under a size i) s) k
        → Faulty (IsOfItems a size false i s) (NoneIn (sized_items a size i) s) k
    none_faulty {s} k = faulty_map k (of_items a size false i s k) none_sized

    -- after an extension bit
    module _ {s m : Bits} where
      pub in_size : {C : Type 0} {holds : C → C → List ℕ → Type 0} {n : ℕ} {before after : C} {t : Bits} → s ≡ false ∷ m → TookItems holds (sized_items a size i) n before after m t
          → TookItems holds (counted_items a size true i) n before after s t
      in_size {t = t} e b = record { codes = b.codes; count = b.count; added = b.added; took = mark_in (sized_items a size i) (sized_items a any_size i) e b.codes t b.took }

      pub past_size : {C : Type 0} {holds : C → C → List ℕ → Type 0} {n : ℕ} {before after : C} {t : Bits} → s ≡ true ∷ m → TookItems holds (unconstrained_items a i) n before after m t
          → TookItems holds (counted_items a size true i) n before after s t
      past_size {t = t} e b = record {
        codes = b.codes;
        count = b.count;
        added = b.added;
        took = mark_past (sized_items a size i) (sized_items a any_size i) e b.codes t b.took;
      }

      in_kind : (k : DecodeErrorKind) → s ≡ false ∷ m → IsOfItems a size false i m k → IsOfItems a size true i s k
      in_kind (SizeConstraintNotSatisfied told) e h = record {
        items = h.items;
        rest = h.rest;
        count = h.count;
        is_least = h.is_least;
        is_most = h.is_most;
        refused = h.refused;
        took = mark_in (items_under a size i) (λ xs. never) e h.items h.rest h.took;
      }
      in_kind k e h = in_marked (IsOfUnder a size.least size.most i) (IsOfUnconstrained a (bits_of i)) k e h

      pub faulty_in : (k : DecodeErrorKind) → s ≡ false ∷ m → Faulty (IsOfItems a size false i m) (NoneIn (sized_items a size i) m) k → Faulty (IsOfItems a size true i s) (NoneIn (counted_items a size true i) s) k
      faulty_in k e = faulty_map k (in_kind k e) (λ none xs t b. none xs t (in_mark (sized_items a size i) (sized_items a any_size i) e xs t b))

      pub faulty_past : (k : DecodeErrorKind) → s ≡ true ∷ m → Faulty (IsOfUnconstrained a (bits_of i) m) (NoneIn (unconstrained_items a i) m) k
          → Faulty (IsOfItems a size true i s) (NoneIn (counted_items a size true i) s) k
      faulty_past k e =
          faulty_map k (λ h. of_items a size true i s k (past_marked (IsOfUnder a size.least size.most i) (IsOfUnconstrained a (bits_of i)) k e h)) (λ none xs t b. none xs t (past_mark (sized_items a size i) (sized_items a any_size i) e xs t b))

    pub no_bit : {s : Bits} (k : DecodeErrorKind) → IsOfBitField 1 s k × (s ≡ []) → Faulty (IsOfItems a size true i s) (NoneIn (counted_items a size true i) s) k
    no_bit {s} k h = inr (of_items a size true i s k (inl h.0), no_mark (sized_items a size i) (sized_items a any_size i) h.1)
