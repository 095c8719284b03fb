-- Lists of NULLs in no bits, and in fragments of eight bits.
use Rattle.std.proofs.Common.{◌≡◌, refl, sym, ap, ◌∙◌, subst, ℕ, zero, suc, ◌+◌, ◌-◌, ◌*◌, ◌^◌, ◌<◌, ◌≤◌, Bool, true, false, cond, ◌&&◌, ltb, leb, [], ◌++◌, length, replicate, arith, inl, Some, length-append, mod-eq_of_lt}
use Rattle.std.proofs.lemmas.Bool.{le-leb, lt-ltb}
use Rattle.std.proofs.lemmas.List.{length-replicate, replicate-append-replicate}
use Rattle.rasn_types.specs.Bits.{Bits, width, to_bits}
use Rattle.rasn_types.specs.Values.{Value, nothing}
use Rattle.rasn_types.specs.Variants.{Variant, aligned, unaligned}
use Rattle.rasn_types.proofs.Bits.{length-to_bits, number-to_bits, width_least}
use Rattle.rasn_types.proofs.Values.{values-as_values}
use Rattle.rasn_constraints.specs.Bounds.{allows, any_size}
use Rattle.rasn_schema.specs.Schemas
use Rattle.per_core.specs.Basic.{OneByOne, IsConstrainedWhole, PaddingIf, UnconstrainedLength, InFragments, Sized, basic, basic_in, constrained_by}
use Rattle.per_core.specs.Counts.{is_aligned, list_items}
use Rattle.per_core.specs.Spellings.{Settings, Spelling, Then, AnyPadding, BitField}
use Rattle.per_core.specs.Writers.{after}
use Rattle.per_core.proofs.LengthForms.{and_no}
use Rattle.per_core.proofs.WriterSpellings.{zero_if}
use Rattle.per_core.specs.ItemCounts.{item_count}
use Rattle.per_core.specs.Nulls.{any_nulls, nulls, sized_nulls}

pub count_of_nulls : (n : ℕ) → item_count (nulls n) ≡ n
count_of_nulls n = ap length (values-as_values (replicate n nothing)) ∙ length-replicate n nothing

-- how each element is spelled
abbrev null_spelling : Settings → Value → Spelling
null_spelling a = basic a Schemas.null

null_row : (a : Settings) (n p : ℕ) → OneByOne (null_spelling a) (replicate n nothing) p []
unfolding basic_in
null_row a zero p = refl
null_row a (suc n) p = record { front = []; rest = []; is_front = record { of = tt; is = refl; spelled = refl }; is_rest = null_row a n (after p []); joins = refl }

-- one number of one takes no bits
only_one : (v : Variant) (a : Settings) (p : ℕ) → constrained_by v a 1 0 p []
only_one v a p = go v
  where
    narrow : width 1 ≤ 0
    narrow = width_least 1 0 (omega arith)

    field : BitField (width 1) 0 p []
    field = let h = narrow in record { wide = omega arith; means = refl }

    go : (v : Variant) → constrained_by v a 1 0 p []
    go unaligned = field
    go aligned = field

allowed : (n : ℕ) → n < 65536 → allows (record { least = Some n; most = Some n }) n ≡ true
allowed n h = both (leb n n) (ltb n (2 ^ 64)) (le-leb n n (omega arith)) (lt-ltb n (2 ^ 64) (omega arith))
  where
    both : (b c : Bool) → b ≡ true → c ≡ true → (b && (b && c)) ≡ true
    both true true e f = refl
    both true false e f = f
    both false c e f = e

fixed_row : (a : Settings) (n m p : ℕ) → n < 65536 → m ≡ n → length (replicate n nothing) ≡ m → Sized a (record { least = Some n; most = Some n }) list_items (null_spelling a) (replicate n nothing) p []
fixed_row a n m p h e l = record {
  allowed = subst (λ (k : ℕ). allows (record { least = Some n; most = Some n }) k ≡ true) (sym e ∙ sym l) (allowed n h);
  spelled = subst (λ t. cond t (Then (IsConstrainedWhole a (n - n + 1) (length (replicate n nothing) - n)) (Then (PaddingIf (ltb 0 (length (replicate n nothing)) && is_aligned list_items n n) a) (OneByOne (null_spelling a) (replicate n nothing))))
      (UnconstrainedLength a (null_spelling a) (replicate n nothing)) p []) (sym (lt-ltb n 65536 h))
      (record { front = []; rest = []; is_front = index; is_rest = record { front = []; rest = []; is_front = none; is_rest = null_row a n (after (after p []) []); joins = refl }; joins = refl });
}
  where
    index : IsConstrainedWhole a (n - n + 1) (length (replicate n nothing) - n) p []
    index = let i : 1 ≡ n - n + 1 = omega arith in
        let j : 0 ≡ length (replicate n nothing) - n = omega arith in
        subst (λ (k : ℕ). IsConstrainedWhole a k (length (replicate n nothing) - n) p []) i (subst (λ (k : ℕ). IsConstrainedWhole a 1 k p []) j
        (record { below = omega arith; spelled = only_one a.variant a p }))

    none : PaddingIf (ltb 0 (length (replicate n nothing)) && is_aligned list_items n n) a (after p []) []
    none = subst (λ t. PaddingIf t a (after p []) []) (sym (and_no (ltb 0 (length (replicate n nothing))) false refl)) refl

pub fixed_nulls : (a : Settings) (p n : ℕ) → n < 65536 → basic a (sized_nulls n) (nulls n) p []
unfolding basic_in
fixed_nulls a p n h = record { of = replicate n nothing; is = refl; spelled = fixed_row a n n p h refl (length-replicate n nothing) }

-- a field's own bits
field_of : (w n p : ℕ) → n < 2 ^ w → BitField w n p (to_bits w n)
field_of w n p h = record { wide = length-to_bits w n; means = number-to_bits w n ∙ mod-eq_of_lt h }

abbrev unaligned_by : Bool → Settings
unaligned_by strict = record { variant = unaligned; strict = strict }

no_padding : (strict : Bool) (p : ℕ) → AnyPadding (unaligned_by strict) p []
no_padding strict p = record { fits = refl; zeros = zero_if strict [] refl }

fragment_rows : (strict : Bool) (k n p : ℕ) → n ≡ 65536 * k → (b : Bits) × (length b ≡ 8 * k + 8) × InFragments (unaligned_by strict) (null_spelling (unaligned_by strict)) k (replicate n nothing) p b
fragment_rows strict zero n p e =
    let c : length (replicate n nothing) ≡ n = length-replicate n nothing in
    let h : length (replicate n nothing) < 128 = omega arith in
    let x : BitField 8 (length (replicate n nothing)) (after p []) (to_bits 8 (length (replicate n nothing))) = field_of 8 (length (replicate n nothing)) (after p []) (omega arith) in (
      to_bits 8 (length (replicate n nothing)) ++ [],
      length-append (to_bits 8 (length (replicate n nothing))) [] ∙ omega (arith, length-to_bits 8 (length (replicate n nothing))),
      record {
        front = [];
        rest = to_bits 8 (length (replicate n nothing)) ++ [];
        is_front = no_padding strict p;
        is_rest = record { front = to_bits 8 (length (replicate n nothing)); rest = []; is_front = inl (h, x); is_rest = null_row (unaligned_by strict) n _; joins = refl };
        joins = refl;
      },
    )
fragment_rows strict (suc k) n p e =
    let m : ℕ = n - 65536 * k in
    let o : ℕ = 65536 * k in
    let l : length (replicate m nothing) ≡ 16384 * 4 = length-replicate m nothing ∙ omega arith in
    let q = fragment_rows strict k o (after (after (after p []) (to_bits 8 196)) []) refl in
    let s : m + o ≡ n = omega arith in
    let j : replicate n nothing ≡ replicate m nothing ++ replicate o nothing = sym (replicate-append-replicate m o nothing ∙ ap (λ (z : ℕ). replicate z nothing) s) in (
      to_bits 8 196 ++ q.0,
      length-append (to_bits 8 196) q.0 ∙ omega (arith, length-to_bits 8 196, q.1),
      record {
        these = replicate m nothing;
        others = replicate o nothing;
        all = j;
        spelled = record {
          front = [];
          rest = to_bits 8 196 ++ q.0;
          is_front = no_padding strict p;
          is_rest = record {
            front = to_bits 8 196;
            rest = q.0;
            is_front = record { times = 4; some = omega arith; few = omega arith; is = l; spelled = field_of 8 196 (after p []) (omega arith) };
            is_rest = record { front = []; rest = q.0; is_front = null_row (unaligned_by strict) m _; is_rest = q.2; joins = refl };
            joins = refl;
          };
          joins = refl;
        };
      },
    )

pub fragmented_nulls : (strict : Bool) (p k n : ℕ) → n ≡ 65536 * k → n < 2 ^ 64 → (b : Bits) × (length b ≡ 8 * k + 8) × basic (unaligned_by strict) any_nulls (nulls n) p b
unfolding basic_in
fragmented_nulls strict p k n e h = let q = fragment_rows strict k n p e in
    (q.0, q.1, record { of = replicate n nothing; is = refl; spelled = record { allowed = any_count; spelled = record { fragments = k; spelled = q.2 } } })
  where
    any_count : allows any_size (length (replicate n nothing)) ≡ true
    any_count = lt-ltb (length (replicate n nothing)) (2 ^ 64) (subst (λ (z : ℕ). z < 2 ^ 64) (sym (length-replicate n nothing)) h)
