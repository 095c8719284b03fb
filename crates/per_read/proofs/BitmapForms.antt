-- Bitmaps of additions, in the small form and the large one (X.691 19.7, 19.8, 11.9.3.4).
use Rattle.std.proofs.Common.{◌≡◌, ◌<◌, ◌⊎◌, inl, inr, sym, ap, ◌∙◌, subst, ℕ, ◌+◌, ◌-◌, Bool, true, false, List, [], ◌∷◌, ◌++◌, length, length-append, arith}
use Rattle.rasn_types.specs.Bits.{Bits}
use Rattle.rasn_constraints.specs.Bounds.{allows, any_size}
use Rattle.per_core.specs.Basic.{IsBitmap, Marked, Sized, bit}
use Rattle.per_core.specs.Counts.{bit_items}
use Rattle.per_core.specs.Spellings.{Settings, Then, BitField, exactly, Took, NoneIn}
use Rattle.per_core.proofs.SpellingsAgree.{field_agree}
use Rattle.per_core.proofs.TakenInTurn.{then_took, took_agree, took_map, took_then}
use Rattle.per_core.specs.BitFieldFaults.{IsOfUnconstrained}
use Rattle.per_core.specs.SizeFaults.{IsOfItems}
use Rattle.per_core.specs.declared.decode_error.DecodeErrorKind.TheVariants.{SizeConstraintNotSatisfied}
use Rattle.per_core.specs.declared.items.Item.TheVariants.{Bit}
use Rattle.per_core.specs.Lengths.{LengthOf, count_of}
use Rattle.per_read.specs.Takes.{Front}
use Rattle.per_core.specs.declared.decode_error.DecodeErrorKind.{DecodeErrorKind}
use Rattle.per_core.specs.declared.lengths.Length.{Length}
use Rattle.per_core.specs.declared.lengths.Length.TheVariants.{Last, Fragment}
use Rattle.per_read.proofs.Coded.{none_of_bits}
use Rattle.per_read.proofs.Fields.{either_took, when_took}
use Rattle.per_read.proofs.Marked.{in_mark, mark_in, mark_past, no_mark, past_mark, after_bit}
use Rattle.per_read.proofs.OfFields.{past_marked}
use Rattle.per_read.proofs.FragmentItems.{Tail, first_part, items_begin, no_items_length, no_items_short, one_length}
use Rattle.per_core.specs.AdditionFaults.{IsOfBitmap, IsOfLargeBitmap, IsOfSmallBitmap}
use Rattle.per_read.specs.Bitmaps.{large_bitmap, small_bitmap, large_fragments_of}
use Rattle.per_read.specs.Flags.{AreFlags}
use Rattle.per_read.specs.OpenTypes.{fragments_of}
use Rattle.per_read.specs.Reasons.{gathering}
use Rattle.per_read.specs.declared.bitmaps.PresenceBits.{PresenceBits}
use Rattle.per_read.specs.declared.bitmaps.PresenceBits.TheVariants.{InPlace, Gathered}
use Rattle.per_read.proofs.Pieces.{Anything, one_piece}
use Rattle.per_read.proofs.FrontItems.{bits_took, last_after}
use Rattle.per_read.proofs.Fronts.{no_front, front_took}

-- a bitmap, by its first bit
module _ (a : Settings) (flags : List Bool) {s t : Bits} where
  pub bitmap_took : Took (Marked true small_bitmap (large_bitmap a) flags) s t → Took (IsBitmap a flags) s t
  bitmap_took b = go (either_took b)
    where
      go : Took (Then (exactly (false ∷ [])) (small_bitmap flags)) s t ⊎ Took (Then (exactly (true ∷ [])) (large_bitmap a flags)) s t → Took (IsBitmap a flags) s t
      go (inl c) =
          let q = then_took c in
          let w = when_took q.2 in
          took_map (λ p x y. record { some = w.0; spelled = inl y }) (took_then q.1 w.1)
      go (inr c) =
          let q = then_took c in
          let w = when_took q.2 in
          took_map (λ p x y. record { some = w.0; spelled = inr y }) (took_then q.1 w.1)

  pub took_bitmap : Took (IsBitmap a flags) s t → Took (Marked true small_bitmap (large_bitmap a) flags) s t
  took_bitmap b = go (either_took {f = Then (exactly (false ∷ [])) (Then (BitField 6 (length flags - 1)) (exactly flags))} {g = Then (exactly (true ∷ [])) (Sized a any_size bit_items bit flags)}
      (record { front = b.front; joins = b.joins; spelled = b.spelled.spelled }))
    where
      go : Took (Then (exactly (false ∷ [])) (Then (BitField 6 (length flags - 1)) (exactly flags))) s t ⊎ Took (Then (exactly (true ∷ [])) (Sized a any_size bit_items bit flags)) s t
          → Took (Marked true small_bitmap (large_bitmap a) flags) s t
      go (inl c) =
          let q = then_took c in
          let w : Took (small_bitmap flags) q.0 t = took_map (λ p x y. (b.spelled.some, y)) q.2 in
          took_map (λ p x y. inl y) (took_then q.1 w)
      go (inr c) =
          let q = then_took c in
          let w : Took (large_bitmap a flags) q.0 t = took_map (λ p x y. (b.spelled.some, y)) q.2 in
          took_map (λ p x y. inr y) (took_then q.1 w)

module _ (a : Settings) {s m : Bits} where
  pub small_took : s ≡ false ∷ m → (flags : List Bool) (t : Bits) → Took (small_bitmap flags) m t → Took (IsBitmap a flags) s t
  small_took e flags t b = bitmap_took a flags (mark_in small_bitmap (large_bitmap a) e flags t b)

  pub large_took : s ≡ true ∷ m → (flags : List Bool) (t : Bits) → Took (large_bitmap a flags) m t → Took (IsBitmap a flags) s t
  large_took e flags t b = bitmap_took a flags (mark_past small_bitmap (large_bitmap a) e flags t b)

  pub no_small : s ≡ false ∷ m → NoneIn small_bitmap m → NoneIn (IsBitmap a) s
  no_small e none flags t b = none flags t (in_mark small_bitmap (large_bitmap a) e flags t (took_bitmap a flags b))

  pub no_large : s ≡ true ∷ m → NoneIn (large_bitmap a) m → NoneIn (IsBitmap a) s
  no_large e none flags t b = none flags t (past_mark small_bitmap (large_bitmap a) e flags t (took_bitmap a flags b))

  pub large_gathers : s ≡ true ∷ m → {A B : Type 0} (k : DecodeErrorKind) → (A → B) → gathering fragments_of IsOfLargeBitmap a m A k → gathering large_fragments_of IsOfBitmap a s B k
  large_gathers e k f (inl h) = inl (h.0, record { count = h.1.count; rest = h.1.rest; took = after_bit true e h.1.rest h.1.took })
  large_gathers e k f (inr h) = inr (past_marked IsOfSmallBitmap (IsOfLargeBitmap a) k e h.0, f h.1)

pub no_bitmap : (a : Settings) {s : Bits} → s ≡ [] → NoneIn (IsBitmap a) s
no_bitmap a e flags t b = no_mark small_bitmap (large_bitmap a) e flags t (took_bitmap a flags b)

-- the small form
module _ {s m : Bits} (n : ℕ) (b : Took (BitField 6 n) s m) where
  pub small_bits : (bits : Bits) {t : Bits} → Took (Front (n + 1) bits) m t → Took (small_bitmap bits) s t
  small_bits bits {t} c =
      let r = front_took c in
      let f : Took (BitField 6 (length bits - 1)) s m = subst (λ (z : ℕ). Took (BitField 6 z) s m) (omega (arith, r.0)) b in
      let x : Took (exactly bits) m t = took_map (λ p y z. z.1) c in
      took_map (λ p y z. (omega (arith, r.0), z)) (took_then f x)

  pub no_small_bits : NoneIn (Front (n + 1)) m → NoneIn small_bitmap s
  no_small_bits none flags t c =
      let w = when_took c in
      let q = then_took w.1 in
      let r = took_agree (field_agree 6 n (length flags - 1)) b q.1 in
      none flags t (subst (λ z. Took (Front (n + 1) flags) z t) (sym r.1) (took_map (λ p y z. (omega (arith, r.0, w.0), z)) q.2))

pub no_small_field : {s : Bits} → NoneIn (BitField 6) s → NoneIn small_bitmap s
no_small_field none flags t c = let q = then_took (when_took c).1 in none (length flags - 1) q.0 q.1

-- the large form
module _ (a : Settings) {s : Bits} where
  pub no_large_bits : NoneIn (Sized a any_size bit_items bit) s → NoneIn (large_bitmap a) s
  no_large_bits none flags t c = none flags t (when_took c).1

  pub no_length_no_bits : NoneIn (LengthOf a) s → NoneIn (large_bitmap a) s
  no_length_no_bits none = no_large_bits (none_of_bits a any_size false (no_items_length (items_begin Anything a 1 s tt) bit_items none))

  pub no_front_no_bits : (n : ℕ) {m : Bits} → Took (LengthOf a (Last n)) s m → NoneIn (Front n) m → NoneIn (large_bitmap a) s
  no_front_no_bits n {m} b none =
      no_large_bits (none_of_bits a any_size false (no_items_short (items_begin Anything a 1 s tt) bit_items (Last n) m b (λ few. omega (arith, no_front none))))

  pub large_bits : (n : ℕ) (bits : Bits) {m t : Bits} → 0 < n → Took (LengthOf a (Last n)) s m → Took (Front n bits) m t → Took (large_bitmap a bits) s t
  large_bits n bits some b c =
      let r = front_took c in
      took_map (λ p x y. (omega (arith, r.0), y)) (one_piece a bit bit_items bits n b r.0 (bits_took n bits c))

  -- how many bits a first length counts, and those after them
  first_bits : (l : Length) (flags : List Bool) {m t : Bits} → Took (LengthOf a l) s m → Took (Sized a any_size bit_items bit flags) s t
      → (these others : List Bool) × (flags ≡ these ++ others) × (length these ≡ count_of l) × ((u : Bits) × Tail bit a l others u t)
  first_bits l flags {m} {t} b c =
      let p = first_part bit a flags s t (took_map (λ p x y. y.spelled) c) in
      let x = one_length a p.head l s p.behind m p.is_length b in
      (p.these, p.others, p.all, p.many ∙ ap count_of x.0, (p.rest, subst (λ z. Tail bit a z p.others p.rest t) x.0 p.tail))

  pub empty_bits : {m : Bits} → Took (LengthOf a (Last 0)) s m → NoneIn (large_bitmap a) s
  empty_bits b flags t c =
      let w = when_took c in
      let p = first_bits (Last 0) flags b w.1 in
      omega (arith, w.0, ap length p.2, length-append p.0 p.1, p.3, ap length p.4.1.0)

  pub fragment_bits : (n : ℕ) (flags : List Bool) {m t : Bits} → Took (LengthOf a (Fragment n)) s m → Took (Sized a any_size bit_items bit flags) s t → Took (large_bitmap a flags) s t
  fragment_bits n flags b c =
      let q = then_took b in
      let f = q.2.spelled in
      let p = first_bits (Fragment n) flags b c in
      took_map (λ v x y. (omega (arith, f.is, f.some, ap length p.2, length-append p.0 p.1, p.3), y)) c

-- every count of a string of any size is one that the size allows
pub unsized_bits : (a : Settings) (s : Bits) (k : DecodeErrorKind) → IsOfItems a any_size false Bit s k → IsOfUnconstrained a 1 s k
unsized_bits a s (SizeConstraintNotSatisfied told) h =
    let e : true ≡ false = sym h.took.spelled.allowed ∙ ap (allows any_size) h.count ∙ h.refused in absurd (cc)
unsized_bits a s _ h = h

-- what a bitmap is, after its first bit
pub flags_after : (b : Bool) (v : PresenceBits) (flags : List Bool) {s m : Bits} (t : Bits) → s ≡ b ∷ m → AreFlags m t v flags → AreFlags s t v flags
flags_after b (InPlace n) flags t e h = last_after b e h
flags_after b (Gathered bits) flags t e h = h
