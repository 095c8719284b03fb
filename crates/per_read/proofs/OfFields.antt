-- What kinds say of fields, which tests show too.
use Rattle.std.proofs.Common.{◌≡◌, ◌&&◌, inl, inr, refl, sym, ap, subst, ℕ, ◌+◌, ◌-◌, ◌<◌, ◌≤◌, ltb, leb, eqb, Bool, true, false, cond, [], ◌∷◌, Option, Some, None, le-leb, le-ltb, arith}
use Rattle.std.proofs.lemmas.Bool.{lt-leb, lt-ltb}
use Rattle.rasn_types.specs.Bits.{Bits, width}
use Rattle.rasn_types.specs.Variants.{Variant, aligned, unaligned}
use Rattle.rasn_constraints.specs.Bounds.{Size}
use Rattle.per_core.specs.Counts.{is_aligned, bits_of, counted_of}
use Rattle.per_core.specs.Spellings.{Settings, exactly, Took}
use Rattle.per_core.proofs.ConstrainedLengths.{IsConstrained, IsFree}
use Rattle.per_core.proofs.TakenInTurn.{took_bit}
use Rattle.per_core.specs.declared.items.Item.{Item}
use Rattle.per_core.specs.BitFieldFaults.{IsOfCount, IsOfBitField, IsOfFragments, IsOfLength, IsOfMarked, IsOfPadded}
use Rattle.per_core.specs.BitFieldFaults.{IsOfPadding, IsOfUnconstrained, Says, in_items, in_length, past_fragment}
use Rattle.per_core.specs.BitFieldFaults.{too_many}
use Rattle.per_read.specs.Kinds.{IsTested}
use Rattle.per_core.specs.NumberFaults.{IsOfConstrained, IsOfConstrainedBy, IsOfCounted, IsOfOctets}
use Rattle.per_core.specs.SizeFaults.{IsOfBetween, IsOfItems, IsOfPaddingIf, IsOfUnder}
use Rattle.per_core.specs.declared.decode_error.DecodeErrorKind.{DecodeErrorKind}
use Rattle.per_core.specs.declared.decode_error.DecodeErrorKind.TheVariants.{SizeConstraintNotSatisfied}
use Rattle.per_core.specs.declared.decode_error.DecodeErrorKind.TheVariants.{UnexpectedEmptyInput}
use Rattle.per_read.proofs.Calls.{of_short}
use Rattle.per_read.proofs.Forms.{differs}

-- of padding, lengths and fields after padding
pub padding_tested : {a : Settings} {s : Bits} (k : DecodeErrorKind) → IsOfPadding a s k → IsTested k
padding_tested k h = subst IsTested (sym h.0) tt

pub count_tested : {s : Bits} (k : DecodeErrorKind) → IsOfCount s k → IsTested k
count_tested k (inl h) = of_short k h.1.2
count_tested k (inr h) = subst IsTested (sym h.0) tt

pub length_tested : {a : Settings} {s : Bits} (k : DecodeErrorKind) → IsOfLength a s k → IsTested k
length_tested k (inl h) = padding_tested k h
length_tested k (inr h) = count_tested k h.2

pub padded_tested : {a : Settings} {w : ℕ} {s : Bits} (k : DecodeErrorKind) → IsOfPadded a w s k → IsTested k
padded_tested k (inl h) = padding_tested k h
padded_tested k (inr h) = of_short k h.2

-- of constrained whole numbers
pub counted_tested : (a : Settings) (n : ℕ) {s : Bits} (k : DecodeErrorKind) → IsOfCounted a n s k → IsTested k
counted_tested a n k (inl h) = of_short k h
counted_tested a n k (inr h) = padded_tested k h.1.2

pub constrained_tested : (a : Settings) (n : ℕ) (s : Bits) (k : DecodeErrorKind) → IsOfConstrained a n s k → IsTested k
constrained_tested a n s k h = go a.variant h
  where
    by : (b c d : Bool) → cond b (IsOfBitField (width n)) (cond c (IsOfPadded a 8) (cond d (IsOfPadded a 16) (IsOfCounted a n))) s k → IsTested k
    by true c d x = of_short k x
    by false true d x = padded_tested k x
    by false false true x = padded_tested k x
    by false false false x = counted_tested a n k x

    go : (v : Variant) → IsOfConstrainedBy v a n s k → IsTested k
    go unaligned x = of_short k x
    go aligned x = by (leb n 255) (eqb n 256) (leb n 65536) x

-- of items in fragments
fragments_tested : {a : Settings} {w : ℕ} (k : DecodeErrorKind) {n : ℕ} {s : Bits} → IsOfFragments a w k n s → IsTested k
fragments_tested k (in_length h) = length_tested k h
fragments_tested k (in_items l b h) = of_short k h
fragments_tested k (too_many l b m e) = subst IsTested (sym e) tt
fragments_tested k (past_fragment items b e l h) = fragments_tested k h

pub unconstrained_tested : {a : Settings} {w : ℕ} {s : Bits} (k : DecodeErrorKind) → IsOfUnconstrained a w s k → IsTested k
unconstrained_tested k h = fragments_tested k h

-- after an extension bit
module _ (inside outside : Says) where
  pub marked_tested : (mark : Bool) (s : Bits) (k : DecodeErrorKind) → ((t : Bits) → inside t k → IsTested k) → ((t : Bits) → outside t k → IsTested k)
      → IsOfMarked mark inside outside s k → IsTested k
  marked_tested false s k g h x = g s x
  marked_tested true s k g h (inl x) = of_short k x
  marked_tested true s k g h (inr (inl x)) = g x.0 x.2
  marked_tested true s k g h (inr (inr x)) = h x.0 x.2

  pub in_marked : {s m : Bits} (k : DecodeErrorKind) → s ≡ false ∷ m → inside m k → IsOfMarked true inside outside s k
  in_marked {m = m} k e h = inr (inl (m, subst (λ z. Took (exactly (false ∷ [])) z m) (sym e) (took_bit false m), h))

  pub past_marked : {s m : Bits} (k : DecodeErrorKind) → s ≡ true ∷ m → outside m k → IsOfMarked true inside outside s k
  past_marked {m = m} k e h = inr (inr (m, subst (λ z. Took (exactly (true ∷ [])) z m) (sym e) (took_bit true m), h))

-- of counts and items under a size
pub padding_if_tested : (b : Bool) (a : Settings) (s : Bits) (k : DecodeErrorKind) → IsOfPaddingIf b a s k → IsTested k
padding_if_tested true a s k h = padding_tested k h
padding_if_tested false a s k h = absurd h

module _ (a : Settings) (i : Item) (s : Bits) (k : DecodeErrorKind) where
  between_tested : (lb ub : ℕ) → IsOfBetween a lb ub i s k → IsTested k
  between_tested lb ub (inl h) = constrained_tested a (ub - lb + 1) s k h
  between_tested lb ub (inr (n, (m, b, inl h))) = padding_if_tested (ltb 0 n && is_aligned (counted_of i) lb ub) a m k h
  between_tested lb ub (inr (n, (m, b, inr h))) = of_short k h.2

  pub under_tested : (least most : Option ℕ) → IsOfUnder a least most i s k → IsTested k
  under_tested None most h = unconstrained_tested k h
  under_tested (Some lb) None h = unconstrained_tested k h
  under_tested (Some lb) (Some ub) h = go (ltb ub 65536) h
    where
      go : (b : Bool) → cond b (IsOfBetween a lb ub i) (IsOfUnconstrained a (bits_of i)) s k → IsTested k
      go true x = between_tested lb ub x
      go false x = unconstrained_tested k x

module _ (a : Settings) (size : Size) (mark : Bool) (i : Item) (s : Bits) where
  abbrev pub IsOfCountedItems : DecodeErrorKind → Type 0
  IsOfCountedItems k = IsOfMarked mark (IsOfUnder a size.least size.most i) (IsOfUnconstrained a (bits_of i)) s k

  pub counted_items_tested : (k : DecodeErrorKind) → IsOfCountedItems k → IsTested k
  counted_items_tested k h =
      marked_tested (IsOfUnder a size.least size.most i) (IsOfUnconstrained a (bits_of i)) mark s k (λ t x. under_tested a i t k size.least size.most x) (λ t x. unconstrained_tested k x) h

  pub of_items : (k : DecodeErrorKind) → IsOfCountedItems k → IsOfItems a size mark i s k
  of_items (SizeConstraintNotSatisfied told) h = absurd (counted_items_tested (SizeConstraintNotSatisfied told) h)
  of_items _ h = h

-- equal forms
pub says_as : {f g : Says} {s : Bits} {k : DecodeErrorKind} → f ≡ g → g s k → f s k
says_as {s = s} {k} e h = subst (λ f. f s k) (sym e) h

module _ (a : Settings) (i : Item) where
  pub of_constrained : {l u : Option ℕ} {lb ub : ℕ} → IsConstrained l u lb ub → IsOfUnder a l u i ≡ IsOfBetween a lb ub i
  of_constrained {lb = lb} {ub} h = rw (h.lower, h.upper) (ap (λ z. cond z (IsOfBetween a lb ub i) (IsOfUnconstrained a (bits_of i))) (lt-ltb ub 65536 h.few))

  pub of_free : (l u : Option ℕ) → IsFree l u → IsOfUnder a l u i ≡ IsOfUnconstrained a (bits_of i)
  of_free None u h = refl
  of_free (Some lb) None h = refl
  of_free (Some lb) (Some ub) h = ap (λ z. cond z (IsOfBetween a lb ub i) (IsOfUnconstrained a (bits_of i))) (le-ltb ub 65536 h)

-- of constrained whole numbers in the ALIGNED variant
module _ (a : Settings) (n : ℕ) where
  pub of_few : n ≤ 255 → IsOfConstrainedBy aligned a n ≡ IsOfBitField (width n)
  of_few h = rw (le-leb n 255 h) refl

  pub of_one_octet : n ≡ 256 → IsOfConstrainedBy aligned a n ≡ IsOfPadded a 8
  of_one_octet e = ap (λ (k : ℕ). IsOfConstrainedBy aligned a k) e

  pub of_two_octets : 256 < n → n ≤ 65536 → IsOfConstrainedBy aligned a n ≡ IsOfPadded a 16
  of_two_octets g h = rw (lt-leb n 255 (omega arith), differs n 256 (λ e. omega arith), le-leb n 65536 h) refl

  pub of_counted : 65536 < n → IsOfConstrainedBy aligned a n ≡ IsOfCounted a n
  of_counted g = rw (lt-leb n 255 (omega arith), differs n 256 (λ e. omega arith), lt-leb n 65536 g) refl

-- of as many numbers, and as wide a field
pub as_many : (a : Settings) (s : Bits) (k : DecodeErrorKind) {d e : ℕ} → d ≡ e → IsOfConstrained a (d + 1) s k → IsOfConstrained a (e + 1) s k
as_many a s k e h = subst (λ (m : ℕ). IsOfConstrained a (m + 1) s k) e h

pub as_lacking : {v w : ℕ} {s : Bits} {k : DecodeErrorKind} → v ≡ w → IsOfBitField v s k → IsOfBitField w s k
as_lacking {s = s} {k} e h = subst (λ (m : ℕ). IsOfBitField m s k) e h

-- numbers and octets
pub of_octets : (a : Settings) (s : Bits) (k : DecodeErrorKind) → IsOfUnconstrained a 8 s k → IsOfOctets a s k
of_octets a s UnexpectedEmptyInput h = absurd (unconstrained_tested UnexpectedEmptyInput h)
of_octets a s _ h = h
