-- Of bits that end within a field nothing is read, nor of what goes on with fewer bits than are missing.
use Rattle.std.proofs.Common.{◌≡◌, ◌∙◌, ◌<◌, ◌&&◌, inl, inr, refl, sym, ap, subst, ℕ, ◌+◌, ◌-◌, ◌*◌, ◌%◌, ltb, leb, eqb, Bool, true, false, cond, [], ◌∷◌, ◌++◌, length, Option, Some, None, ℤ, arith, append_assoc, length-append}
use Rattle.rasn_types.specs.Bits.{Bits, width}
use Rattle.rasn_types.specs.Variants.{Variant, aligned, unaligned}
use Rattle.rasn_constraints.specs.Bounds.{Bounds, Size, above, any_size, unbounded, count_of, number_of}
use Rattle.rasn_constraints.specs.declared.count.Count.{Count}
use Rattle.per_core.specs.Basic.{InOctets, IsBitmap, IsNumber, IsNumberOf, Marked, Octets, Sized, UnconstrainedLength, constrained_by, constrained_form, number_spelling}
use Rattle.per_core.specs.Counts.{ItemKind, bit_items, is_aligned, octet_items, bits_of, counted_of}
use Rattle.per_core.specs.Spellings.{AnyPadding, BitField, Settings, Spelling, Then, Took, bit_offset, NoneIn}
use Rattle.per_core.proofs.SpellingsAgree.{cancel, fronts}
use Rattle.per_core.proofs.TakenInTurn.{took_map}
use Rattle.per_core.specs.declared.items.Item.{Item}
use Rattle.per_core.specs.AdditionFaults.{IsOfBitmap, IsOfLargeBitmap, IsOfSmallBitmap}
use Rattle.per_read.specs.Bitmaps.{large_bitmap, small_bitmap}
use Rattle.per_core.specs.BitFieldFaults.{IsOfCount, IsOfBitField, IsOfFragments, IsOfLength, IsOfMarked, IsOfPadded}
use Rattle.per_core.specs.BitFieldFaults.{IsOfUnconstrained, Says, count_field, in_items, in_length, past_fragment}
use Rattle.per_core.specs.BitFieldFaults.{too_many}
use Rattle.per_core.specs.Lengths.{coded, counted_items, CountOf, LengthOf, Between, under_size}
use Rattle.per_read.specs.Items.{sized_items, unconstrained_items}
use Rattle.per_core.specs.Lengths as lengths
use Rattle.per_core.specs.NumberFaults.{IsOfConstrained, IsOfConstrainedBy, IsOfCounted, IsOfForm, IsOfNumber}
use Rattle.per_core.specs.NumberFaults.{IsOfOctets}
use Rattle.per_core.specs.SizeFaults.{IsOfBetween, IsOfItems, IsOfPaddingIf, IsOfUnder}
use Rattle.per_read.specs.Sizes.{items_between}
use Rattle.per_core.specs.declared.decode_error.DecodeErrorKind.TheVariants.{ExceedsMaxLength, Incomplete, ParserFail}
use Rattle.per_core.specs.declared.decode_error.ParserFailCause.TheVariants.{EmptyBitmap, FragmentCode, NonzeroPadding}
use Rattle.per_core.specs.declared.lengths.Length.TheVariants.{Fragment}
use Rattle.per_read.proofs.Calls.{no_field_in}
use Rattle.per_read.proofs.Counts
use Rattle.per_read.proofs.Counts.{ended_first, ended_fragment, ended_long, ended_second, ended_short}
use Rattle.per_read.proofs.Coded.{none_of_bits}
use Rattle.per_read.proofs.Fields.{exactly_took, when_took}
use Rattle.per_read.proofs.Forms
use Rattle.per_read.proofs.Fronts.{front_took}
use Rattle.per_read.proofs.BitmapForms.{no_large_bits, no_small_bits, no_small_field, took_bitmap}
use Rattle.per_read.proofs.Marked.{in_mark, no_mark, past_mark}
use Rattle.per_read.proofs.Miscounts.{none_sized}
use Rattle.per_read.proofs.Naturals.{no_length_no_natural}
use Rattle.per_read.proofs.OneByOne.{items_exact, items_wide, no_more}
use Rattle.per_read.proofs.FragmentItems.{Tail, first_part, one_length}
use Rattle.per_read.proofs.SizeForms.{no_code_from, no_count_between, short_between}
use Rattle.per_read.proofs.NumbersUnderBounds.{no_length_no_whole}

-- any settings
pub any_settings : Settings
any_settings = record { variant = unaligned; strict = false }

-- how many bits are missing
missing_is : {w : ℕ} {s : Bits} {missing : Count} → IsOfBitField w s (Incomplete missing) → number_of missing ≡ w - length s
missing_is {w} {s} {missing} h =
    let e : missing ≡ count_of (w - length s) = let i : Incomplete missing ≡ Incomplete (count_of (w - length s)) = h.missing in cc in
    ap number_of e ∙ omega arith

-- what was taken is taken too where whole octets follow
pub goes_on : {f : Spelling} {s t : Bits} (more : Bits) → length more % 8 ≡ 0 → Took f s t → Took f (s ++ more) (t ++ more)
goes_on {f} {s} {t} more whole a = record {
  front = a.front;
  joins = ap (λ z. z ++ more) a.joins ∙ append_assoc a.front t more;
  spelled = subst (λ (p : ℕ). f p a.front) same a.spelled;
}
  where
    same : bit_offset s ≡ bit_offset (s ++ more)
    same = omega (arith, length-append s more, whole)

module _ (a : Settings) (missing : Count) (more : Bits) (whole : length more % 8 ≡ 0) (few : length more < number_of missing) where
  -- a field, and a length
  field_short : {w : ℕ} {s : Bits} → IsOfBitField w s (Incomplete missing) → length (s ++ more) < w
  field_short {w} {s} h = omega (arith, length-append s more, missing_is h, few)

  pub no_field : {w : ℕ} {s : Bits} → IsOfBitField w s (Incomplete missing) → NoneIn (BitField w) (s ++ more)
  no_field h = no_field_in (field_short h)

  no_count : {s : Bits} → IsOfCount s (Incomplete missing) → NoneIn CountOf (s ++ more)
  no_count (inr h) = absurd (let e : Incomplete missing ≡ ParserFail FragmentCode = h.0 in cc)
  no_count {s} (inl h) = go h.0 h.1.0 (exactly_took h.1.1) h.1.2
    where
      joined : (front t : Bits) → s ≡ front ++ t → s ++ more ≡ front ++ (t ++ more)
      joined front t e = ap (λ z. z ++ more) e ∙ append_assoc front t more

      nothing : (t : Bits) → length (t ++ more) < 1 → t ++ more ≡ []
      nothing t h = no_more (t ++ more) (omega arith)

      go : (front t : Bits) → s ≡ front ++ t → IsOfBitField (count_field front) t (Incomplete missing) → NoneIn CountOf (s ++ more)
      go [] t e h = ended_first (s ++ more) (joined [] t e ∙ nothing t (field_short h))
      go (false ∷ []) t e h = ended_short (s ++ more) (t ++ more) false (joined (false ∷ []) t e) refl (field_short h)
      go (true ∷ []) t e h = ended_second (s ++ more) (t ++ more) true (joined (true ∷ []) t e) refl (nothing t (field_short h))
      go (true ∷ false ∷ []) t e h = ended_long (s ++ more) (false ∷ (t ++ more)) true (joined (true ∷ false ∷ []) t e) (t ++ more) false refl refl refl (field_short h)
      go (true ∷ true ∷ []) t e h = ended_fragment (s ++ more) (true ∷ (t ++ more)) true (joined (true ∷ true ∷ []) t e) (t ++ more) true refl refl refl (field_short h)
      go (false ∷ x ∷ f) t e h = absurd (omega (arith, h.short))
      go (true ∷ false ∷ x ∷ f) t e h = absurd (omega (arith, h.short))
      go (true ∷ true ∷ x ∷ f) t e h = absurd (omega (arith, h.short))

  unpadded : Incomplete missing ≡ ParserFail NonzeroPadding → ⊥
  unpadded e = cc

  pub no_length : {s : Bits} → IsOfLength a s (Incomplete missing) → NoneIn (LengthOf a) (s ++ more)
  no_length (inl h) = absurd (unpadded h.0)
  no_length (inr h) = Counts.no_length (goes_on more whole h.1) (no_count h.2)

  -- constrained whole numbers
  no_padded : {w : ℕ} {s : Bits} → IsOfPadded a w s (Incomplete missing) → NoneIn (λ n. Then (AnyPadding a) (BitField w n)) (s ++ more)
  no_padded (inl h) = absurd (unpadded h.0)
  no_padded {w} (inr h) = Forms.no_padded w (goes_on more whole h.1) (field_short h.2)

  no_counted : (n : ℕ) {s : Bits} → IsOfCounted a n s (Incomplete missing) → NoneIn (InOctets a n) (s ++ more)
  no_counted n (inl h) = Forms.no_count a n (field_short h)
  no_counted n (inr h) = Forms.no_counted a n h.0 (goes_on more whole h.1.1) (no_padded h.1.2)

  pub no_constrained : (n : ℕ) (s : Bits) → IsOfConstrained a n s (Incomplete missing) → NoneIn (constrained_form a n) (s ++ more)
  no_constrained n s h = go a.variant h
    where
      by : (b c d : Bool) → cond b (IsOfBitField (width n)) (cond c (IsOfPadded a 8) (cond d (IsOfPadded a 16) (IsOfCounted a n))) s (Incomplete missing)
          → NoneIn (λ o. cond b (BitField (width n) o) (cond c (Then (AnyPadding a) (BitField 8 o)) (cond d (Then (AnyPadding a) (BitField 16 o)) (InOctets a n o)))) (s ++ more)
      by true c d x = no_field x
      by false true d x = no_padded x
      by false false true x = no_padded x
      by false false false x = no_counted n x

      go : (v : Variant) → IsOfConstrainedBy v a n s (Incomplete missing) → NoneIn (constrained_by v a n) (s ++ more)
      go unaligned x = no_field x
      go aligned x = by (leb n 255) (eqb n 256) (leb n 65536) x

  -- items in fragments
  no_fragments : {w n : ℕ} {s : Bits} → IsOfFragments a w (Incomplete missing) n s → NoneIn (UnconstrainedLength a (BitField w)) (s ++ more)
  no_fragments {w} {s = s} (in_length h) xs t b =
      let p = first_part (BitField w) a xs (s ++ more) t b in no_length h p.head p.behind p.is_length
  no_fragments {w} {s = s} (in_items {m = m} l took h) xs t b =
      let p = first_part (BitField w) a xs (s ++ more) t b in
      let x = one_length a p.head l (s ++ more) p.behind (m ++ more) p.is_length (goes_on more whole took) in
      let many : w * length p.these ≡ w * lengths.count_of l = ap (λ (n : ℕ). w * n) (p.many ∙ ap lengths.count_of x.0) in
      omega (arith, items_wide w p.these p.are_these, many, ap length x.1, field_short h)
  no_fragments (too_many l took g e) xs t b = absurd (let i : Incomplete missing ≡ ExceedsMaxLength = e in cc)
  no_fragments {w} {s = s} (past_fragment {j = j} {m = m} {r = r} items took e wide h) xs t b =
      let p = first_part (BitField w) a xs (s ++ more) t b in
      let x = one_length a p.head (Fragment j) (s ++ more) p.behind (m ++ more) p.is_length (goes_on more whole took) in
      let many : w * length p.these ≡ w * j = ap (λ (n : ℕ). w * n) (p.many ∙ ap lengths.count_of x.0) in
      let c = p.are_these in
      let same : c.front ++ p.rest ≡ items ++ (r ++ more) = sym c.joins ∙ x.1 ∙ ap (λ z. z ++ more) e ∙ append_assoc items r more in
      let i : c.front ≡ items = fronts c.front items p.rest (r ++ more) (items_exact w p.these c ∙ many ∙ sym wide) same in
      let rest : p.rest ≡ r ++ more = cancel items p.rest (r ++ more) (ap (λ z. z ++ p.rest) (sym i) ∙ same) in
      no_fragments h p.others t (subst (λ z. Took (UnconstrainedLength a (BitField w) p.others) z t) rest (subst (λ z. Tail (BitField w) a z p.others p.rest t) x.0 p.tail))

  pub no_unconstrained : (w : ℕ) (kind : ItemKind) {s : Bits} → IsOfUnconstrained a w s (Incomplete missing) → NoneIn (Sized a any_size kind (BitField w)) (s ++ more)
  no_unconstrained w kind h xs t b = no_fragments h xs t (took_map (λ p c x. x.spelled) b)

  pub no_octets : {s : Bits} → IsOfUnconstrained a 8 s (Incomplete missing) → NoneIn (Octets a) (s ++ more)
  no_octets h = no_unconstrained 8 octet_items h

  -- items under a size
  unpadded_if : (b : Bool) (s : Bits) → IsOfPaddingIf b a s (Incomplete missing) → ⊥
  unpadded_if true s h = unpadded h.0
  unpadded_if false s h = h

  no_between : (lb ub : ℕ) (i : Item) (s : Bits) → IsOfBetween a lb ub i s (Incomplete missing) → NoneIn (items_between a lb ub i) (s ++ more)
  no_between lb ub i s (inl h) = no_count_between a lb ub (counted_of i) (coded i) (no_code_from a lb ub (no_constrained (ub - lb + 1) s h))
  no_between lb ub i s (inr (n, (m, took, inl h))) = absurd (unpadded_if (ltb 0 n && is_aligned (counted_of i) lb ub) m h)
  no_between lb ub i s (inr (n, (m, took, inr h))) =
      short_between a lb ub (counted_of i) (bits_of i) n (goes_on more whole took) refl (goes_on more whole h.1) (field_short h.2)

  no_under : (l u : Option ℕ) (i : Item) (s : Bits) → IsOfUnder a l u i s (Incomplete missing) → NoneIn (under_size a l u (counted_of i) (coded i)) (s ++ more)
  no_under None u i s h = no_unconstrained (bits_of i) (counted_of i) h
  no_under (Some lb) None i s h = no_unconstrained (bits_of i) (counted_of i) h
  no_under (Some lb) (Some ub) i s h = go (ltb ub 65536) h
    where
      go : (b : Bool) → cond b (IsOfBetween a lb ub i) (IsOfUnconstrained a (bits_of i)) s (Incomplete missing)
          → NoneIn (λ xs. cond b (Between a lb ub (counted_of i) (coded i) xs) (Sized a any_size (counted_of i) (coded i) xs)) (s ++ more)
      go true x = no_between lb ub i s x
      go false x = no_unconstrained (bits_of i) (counted_of i) x

  -- after an extension bit
  no_marked : {X : Type 0} (mark : Bool) (f g : X → Spelling) (inside outside : Says) (s : Bits) → ((t : Bits) → inside t (Incomplete missing) → NoneIn f (t ++ more))
      → ((t : Bits) → outside t (Incomplete missing) → NoneIn g (t ++ more)) → IsOfMarked mark inside outside s (Incomplete missing) → NoneIn (Marked mark f g) (s ++ more)
  no_marked false f g inside outside s k l h = k s h
  no_marked true f g inside outside s k l (inl h) = no_mark f g (no_more (s ++ more) (omega (arith, field_short h)))
  no_marked true f g inside outside s k l (inr (inl h)) =
      λ x t b. k h.0 h.2 x t (in_mark f g (ap (λ z. z ++ more) (exactly_took h.1)) x t b)
  no_marked true f g inside outside s k l (inr (inr h)) =
      λ x t b. l h.0 h.2 x t (past_mark f g (ap (λ z. z ++ more) (exactly_took h.1)) x t b)

  pub no_items : (size : Size) (mark : Bool) (i : Item) (s : Bits) → IsOfItems a size mark i s (Incomplete missing) → NoneIn (counted_items a size mark i) (s ++ more)
  no_items size mark i s h = no_marked mark (sized_items a size i) (unconstrained_items a i) (IsOfUnder a size.least size.most i) (IsOfUnconstrained a (bits_of i)) s
      (λ t x. none_sized a i size (no_under size.least size.most i t x)) (λ t x. no_unconstrained (bits_of i) (counted_of i) x) h

  -- numbers
  no_form : (l u : Option ℤ) (s : Bits) → IsOfForm a l u s (Incomplete missing) → NoneIn (number_spelling a l u) (s ++ more)
  no_form None None s h = no_length_no_whole a (s ++ more) (no_octets h)
  no_form None (Some u) s h = λ z t b. no_length_no_whole a (s ++ more) (no_octets h) z t (when_took b).1
  no_form (Some l) None s h = λ z t b. no_length_no_natural a (s ++ more) (no_octets h) (above l z) t (when_took b).1
  no_form (Some l) (Some u) s h = λ z t b.
      let c = (when_took b).1 in
      no_constrained (above l u + 1) s h (above l z) t (record { front = c.front; joins = c.joins; spelled = c.spelled.spelled })

  pub no_number : (bounds : Bounds) (mark : Bool) (range : Bounds) (s : Bits) → IsOfNumber a bounds mark range s (Incomplete missing) → NoneIn (IsNumberOf a bounds mark range) (s ++ more)
  no_number bounds mark range s h z t b =
      no_marked mark (IsNumber a bounds) (IsNumber a unbounded) (IsOfForm a bounds.low bounds.high) (IsOfOctets a) s
      (λ r x. within bounds (no_form bounds.low bounds.high r x)) (λ r x. within unbounded (no_form None None r x)) h z t
      (record { front = b.front; joins = b.joins; spelled = b.spelled.spelled })
    where
      within : (of : Bounds) {r : Bits} → NoneIn (number_spelling a of.low of.high) r → NoneIn (IsNumber a of) r
      within of none z t b = none z t (record { front = b.front; joins = b.joins; spelled = b.spelled.spelled })

  -- bitmaps
  no_small_bitmap : (s : Bits) → IsOfSmallBitmap s (Incomplete missing) → NoneIn small_bitmap (s ++ more)
  no_small_bitmap s (inl h) = no_small_field (no_field h)
  no_small_bitmap s (inr h) = no_small_bits h.0 (goes_on more whole h.1.1) (λ f t b.
      let r = front_took b in omega (arith, r.0, ap length r.1, length-append f t, field_short h.1.2))

  no_large_bitmap : (s : Bits) → IsOfLargeBitmap a s (Incomplete missing) → NoneIn (large_bitmap a) (s ++ more)
  no_large_bitmap s (inl h) = no_large_bits a (none_of_bits a any_size false (no_unconstrained 1 bit_items h))
  no_large_bitmap s (inr h) = absurd (let e : Incomplete missing ≡ ParserFail EmptyBitmap = h.0 in cc)

  pub no_bitmap : (s : Bits) → IsOfBitmap a s (Incomplete missing) → NoneIn (IsBitmap a) (s ++ more)
  no_bitmap s h flags t b =
      no_marked true small_bitmap (large_bitmap a) IsOfSmallBitmap (IsOfLargeBitmap a) s no_small_bitmap no_large_bitmap h flags t (took_bitmap a flags b)
