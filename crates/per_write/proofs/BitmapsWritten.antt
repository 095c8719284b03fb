-- The bitmap of additions, and open types, as they are written.
use Rattle.std.specs.Prelude.{Result, Ok, Err, slice_get, unwrap_or}
use Rattle.std.proofs.Common.{◌≡◌, refl, sym, ap, ◌∙◌, ◌*◌, ◌%◌, ◌^◌, ◌++◌, bit_or, subst, inl, inr, ℕ, zero, suc, ◌+◌, ◌-◌, ◌/◌, ◌<◌, ◌≤◌, max, Bool, true, false, ◌||◌, [], ◌∷◌, length, drop, Some, arith, le-leb}
use Rattle.std.proofs.lemmas.Bool.{lt-leb}
use Rattle.rasn_types.specs.Bits.{Bits, pack, to_bits}
use Rattle.rasn_types.specs.Variants.{variant_of, Variant}
use Rattle.rasn_types.specs.Packed.{packed}
use Rattle.rasn_types.specs.declared.types.Codec.{Codec}
use Rattle.rasn_constraints.specs.Bounds.{any_size}
use Rattle.rasn_types.proofs.Bits.{length-to_bits}
use Rattle.per_bits.proofs.Joins.{put_after}
use Rattle.per_bits.proofs.Words.{to_bits-join}
use Rattle.per_core.specs.Canon.{any_set, bitmap}
use Rattle.per_core.specs.Counts.{bit_items, bit_writers, counted_in, open_bits, unconstrained_octets}
use Rattle.per_core.specs.Writers.{just, ◌▹◌}
use Rattle.per_core.specs.declared.encode_error.EncodeError.{EncodeError}
use Rattle.per_write.specs.Faults.{IsMemory}
use Rattle.per_write.specs.Items.{IsMemoryOrItem}
use Rattle.per_write.specs.WriterState.{Puts, WriterState, StateAppends}
use Rattle.per_write.proofs.Writing.{wrote_same, wrote_then}

-- whether a bit from a place on is 1
pub next_set : (bs : Bits) (i : ℕ) → any_set (drop i bs) ≡ (unwrap_or (slice_get bs i) false || any_set (drop (i + 1) bs))
next_set [] zero = refl
next_set [] (suc i) = ap (λ (n : ℕ). any_set (drop {A = Bool} n [])) (let e : suc (i + 1) ≡ suc i + 1 = omega arith in e)
next_set (b ∷ bs) zero = refl
next_set (b ∷ bs) (suc i) = next_set bs i ∙ ap (λ (n : ℕ). unwrap_or (slice_get bs i) false || any_set (drop n (b ∷ bs))) (let e : suc (i + 1) ≡ suc i + 1 = omega arith in e)

pub none_past : (bs : Bits) (i : ℕ) → length bs ≤ i → any_set (drop i bs) ≡ false
none_past [] zero h = refl
none_past [] (suc i) h = refl
none_past (b ∷ bs) zero h = absurd (omega arith)
none_past (b ∷ bs) (suc i) h = none_past bs i (omega arith)

-- X.691 11.2: no bits are one zero octet
pub empty_open : (a : Variant) → unconstrained_octets a (0 ∷ []) ≡ open_bits a (Some [])
unfolding open_bits
empty_open a = refl

pub some_open : (a : Variant) (c : Bits) → (c ≡ [] → ⊥) → unconstrained_octets a (packed c) ≡ open_bits a (Some c)
unfolding open_bits
some_open a [] h = absurd (h refl)
some_open a (b ∷ c) h = ap (λ (n : ℕ). unconstrained_octets a (pack n (b ∷ c))) (let e : (suc (length c) + 7) / 8 ≡ max 1 ((suc (length c) + 7) / 8) = omega arith in e)

-- X.691 19.8, 11.9.3.4: more than 64 additions
large_form : (a : Variant) (flags : Bits) → 64 < length flags → (p : ℕ) → (just (true ∷ []) ▹ counted_in a any_size bit_items (bit_writers flags)) p ≡ bitmap a flags p
unfolding bitmap
large_form a flags h p = rw (lt-leb (length flags) 64 h) refl

-- X.691 19.8, 11.9.3.4: a zero and the length less one in six bits, which are seven bits of it
small_form : (a : Variant) (flags : Bits) → length flags ≤ 64 → (p : ℕ) → just (to_bits 7 (length flags - 1) ++ flags) p ≡ bitmap a flags p
unfolding bitmap
small_form a flags h p = rw (le-leb (length flags) 64 h) (ap (λ (b : Bool). Some ((b ∷ to_bits 6 (length flags - 1)) ++ flags)) (lt-leb 64 ((length flags - 1) % 128) (omega arith)))

pub large_bitmap : (x m y : WriterState) (flags : Bits) (result : Result (Unit {0}) EncodeError) → 64 < length flags → StateAppends x (just (true ∷ [])) m →
    Puts (IsMemoryOrItem (λ k. ⊥) (bit_writers flags)) (counted_in (variant_of m.codec) any_size bit_items (bit_writers flags)) m result y → Puts IsMemory (bitmap (variant_of x.codec) flags) x result y
large_bitmap x m y flags (Ok u) h w p = record {
  ok = wrote_same x y _ _ (large_form (variant_of x.codec) flags h) (wrote_then x m y (just (true ∷ [])) (counted_in (variant_of x.codec) any_size bit_items (bit_writers flags)) w
      (subst (λ (c : Codec). StateAppends m (counted_in (variant_of c) any_size bit_items (bit_writers flags)) y) w.same p.ok));
  err = tt;
  fails = tt;
  kept = p.kept ∙ w.same;
}
large_bitmap x m y flags (Err e) h w p = record {
  ok = tt;
  err = elim p.err [ inl i ↦ record { kind_is = i.kind_is; codec_is = i.codec_is ∙ w.same } | inr r ↦ absurd r.stands ];
  fails = p.fails;
  kept = p.kept ∙ w.same;
}

pub small_bitmap : (x y : WriterState) (flags all : Bits) (result : Result (Unit {0}) EncodeError) → length flags ≤ 64 → all ≡ to_bits 7 (length flags - 1) ++ flags → Puts IsMemory (just all) x result y →
    Puts IsMemory (bitmap (variant_of x.codec) flags) x result y
small_bitmap x y flags all (Ok u) h e p = record {
  ok = wrote_same x y _ _ (λ q. ap Some e ∙ small_form (variant_of x.codec) flags h q) p.ok;
  err = tt;
  fails = tt;
  kept = p.kept;
}
small_bitmap x y flags all (Err d) h e p = record { ok = tt; err = p.err; fails = p.fails; kept = p.kept }

-- a word of so many bits after their count less one
pub word_after : (word count front number : ℕ) → word < 2 ^ count → count ≤ 64 → front ≡ count - 1 → number ≡ bit_or (front * 2 ^ count % 2 ^ 128) word → to_bits (7 + count) number ≡ to_bits 7 (length (to_bits count word) - 1) ++ to_bits count word
word_after word count front number h l e k =
    ap (to_bits (7 + count)) (k ∙ put_after 128 front word 7 count (omega arith) h (omega arith)) ∙ to_bits-join 7 count front word h
    ∙ ap (λ (n : ℕ). to_bits 7 n ++ to_bits count word) (e ∙ ap (λ (n : ℕ). n - 1) (sym (length-to_bits count word)))
