-- The bits that a span means, and those that are left of them.
use Rattle.std.proofs.Common.{◌≡◌, ◌≤◌, refl, sym, ◌∙◌, ap, ap₂, ℕ, ◌+◌, ◌-◌, Bool, [], ◌∷◌, ◌++◌, length, take, drop, Some, slice_get, arith, length-append, length-take, length-drop, take-take, take_at, drop_at, drop-drop, take-append-drop, append_assoc, nat_eq}
use Rattle.std.specs.Prelude.{min}
use Rattle.std.proofs.lemmas.List.{take_all, take_min, drop_min, drop-take}
use Rattle.rasn_types.specs.Bits.{Bits, number_of}
use Rattle.per_core.specs.Basic.{bit}
use Rattle.rasn_constraints.specs.Bounds.{count_of}
use Rattle.per_core.specs.BitFieldFaults.{IsOfBitField}
use Rattle.per_core.specs.Spellings.{NoneIn}
use Rattle.per_core.specs.declared.decode_error.DecodeErrorKind.TheVariants.{Incomplete}
use Rattle.per_read.proofs.Turns.{one_bit}
use Rattle.per_decoding.specs.Sources.{span_of, IsWithin}
use Rattle.per_decoding.specs.State.{State, with_bits, with_last}
use Rattle.per_decoding.specs.declared.source.Span.{Span}

-- as many of its bits as a source has
pub part : (span : Span) (source : Bits) (begin count : ℕ) → begin ≡ min span.begin (length source) → count ≡ min (span.end - span.begin) (length source - begin) → take count (drop begin source) ≡ span_of span source
part span source begin count b n =
    let behind : drop begin source ≡ drop span.begin source = ap (λ (k : ℕ). drop k source) b ∙ drop_min span.begin source in
    ap (λ (k : ℕ). take k (drop begin source)) (n ∙ ap (λ (k : ℕ). min (span.end - span.begin) k) (sym (length-drop begin source)))
    ∙ take_min (span.end - span.begin) (drop begin source) ∙ ap (λ bs. take (span.end - span.begin) bs) behind

pub span_length : (span : Span) (source : Bits) → IsWithin span source → length (span_of span source) ≡ span.end - span.begin
span_length span source h = length-take (span.end - span.begin) (drop span.begin source) ∙ omega (arith, length-drop span.begin source, h.ordered, h.enough)

-- after the first of them
pub behind : (span : Span) (source : Bits) (n : ℕ) → n ≤ span.end - span.begin → drop n (span_of span source) ≡ span_of (record { begin = span.begin + n; end = span.end }) source
behind span source n h =
    let e : span.end - span.begin ≡ n + (span.end - (span.begin + n)) = omega arith in
    ap (λ (k : ℕ). drop n (take k (drop span.begin source))) e ∙ drop-take n (span.end - (span.begin + n)) (drop span.begin source) ∙ ap (λ z. take (span.end - (span.begin + n)) z) (drop-drop n span.begin source)

-- the first of them, and those behind
pub first_of : (span : Span) (source : Bits) (n : ℕ) → n ≤ span.end - span.begin
    → span_of span source ≡ span_of (record { begin = span.begin; end = span.begin + n }) source ++ span_of (record { begin = span.begin + n; end = span.end }) source
first_of span source n h =
    let e : n ≡ span.begin + n - span.begin = omega arith in
    let first : take n (span_of span source) ≡ span_of (record { begin = span.begin; end = span.begin + n }) source = take-take n (span.end - span.begin) (drop span.begin source) h ∙ ap (λ (k : ℕ). take k (drop span.begin source)) e in
    sym (take-append-drop n (span_of span source)) ∙ ap₂ (λ bs cs. bs ++ cs) first (behind span source n h)

-- a bit, and those after it
pub first_bit : (bits : Bits) (b : Bool) → slice_get bits 0 ≡ Some b → bits ≡ b ∷ drop 1 bits
first_bit [] b e = absurd cc
first_bit (c ∷ bits) b e = let i : c ≡ b = cc in ap (λ z. z ∷ bits) i

pub one_more : (span : Span) (source : Bits) (b : Bool) → slice_get (span_of span source) 0 ≡ Some b → 1 ≤ span.end - span.begin
one_more span source b e =
    let l : length (span_of span source) ≡ length (b ∷ drop 1 (span_of span source)) = ap length (first_bit (span_of span source) b e) in
    omega (arith, l, length-take (span.end - span.begin) (drop span.begin source))

-- the last bits, of which so many are left
pub last_of : (front rest bits : Bits) (left : ℕ) → bits ≡ front ++ rest → left ≡ length rest → drop (length bits - left) bits ≡ rest
last_of front rest bits left e l =
    let n : length front ≡ length bits - left = omega (arith, l, ap length e, length-append front rest) in
    ap (λ z. drop (length bits - left) z) e ∙ drop_at front rest (length bits - left) n

pub with_rest : (s : State) (front rest : Bits) (left : ℕ) → s.bits ≡ front ++ rest → left ≡ length rest → with_last s left ≡ with_bits s rest
with_rest s front rest left e l = ap (λ z. with_bits s z) (last_of front rest s.bits left e l)

pub row_length : (span : Span) (source : Bits) (n : ℕ) → IsWithin span source → n ≤ span.end - span.begin → length (span_of (record { begin = span.begin; end = span.begin + n }) source) ≡ n
row_length span source n h l = length-take (span.begin + n - span.begin) (drop span.begin source) ∙ omega (arith, length-drop span.begin source, h.ordered, h.enough)

-- the bits left after n of them
pub advanced : (span : Span) (source : Bits) (left n : ℕ) → IsWithin span source → n ≡ span.end - span.begin - left
    → span_of (record { begin = span.begin + n; end = span.end }) source ≡ drop (length (span_of span source) - left) (span_of span source)
advanced span source left n h e =
    let l : n ≤ span.end - span.begin = omega arith in
    let k : n ≡ length (span_of span source) - left = omega (arith, span_length span source h) in
    sym (behind span source n l) ∙ ap (λ (m : ℕ). drop m (span_of span source)) k

-- the last of some bits in front of others
pub in_front_of : (span : Span) (source before bits rest : Bits) (left count : ℕ) → IsWithin span source → span_of span source ≡ before ++ (bits ++ rest) → length rest ≡ left → length bits ≡ count
    → span_of (record { begin = span.end - left - count; end = span.end - left }) source ≡ bits
in_front_of span source before bits rest left count h e l n =
    let behind = drop (span.end - span.begin) (drop span.begin source) in
    let skipped = take span.begin source ++ before in
    let whole : source ≡ skipped ++ (bits ++ (rest ++ behind)) =
    sym (take-append-drop span.begin source)
    ∙ ap (λ z. take span.begin source ++ z) (sym (take-append-drop (span.end - span.begin) (drop span.begin source)) ∙ ap (λ z. z ++ behind) e ∙ append_assoc before (bits ++ rest) behind ∙ ap (λ z. before ++ z) (append_assoc bits rest behind))
    ∙ sym (append_assoc (take span.begin source) before (bits ++ (rest ++ behind))) in
    let inner : length before + (count + left) ≡ span.end - span.begin = omega (arith, sym (span_length span source h) ∙ ap length e, length-append before (bits ++ rest), length-append bits rest, l, n) in
    let first : length skipped ≡ span.end - left - count = omega (arith, length-append (take span.begin source) before, length-take span.begin source, h.ordered, h.enough, inner) in
    let many : length bits ≡ span.end - left - (span.end - left - count) = omega (arith, inner, n, h.ordered) in
    let d : drop (span.end - left - count) source ≡ bits ++ (rest ++ behind) = ap (λ z. drop (span.end - left - count) z) whole ∙ drop_at skipped (bits ++ (rest ++ behind)) (span.end - left - count) first in
    ap (λ z. take (span.end - left - (span.end - left - count)) z) d ∙ take_at bits (rest ++ behind) (span.end - left - (span.end - left - count)) many

-- the next bit of a span
pub next_of : (span : Span) (source bits : Bits) (n : ℕ) → bits ≡ span_of span source → (bits ≡ [] → ⊥) → n ≡ number_of (take 1 bits)
    → span_of span source ≡ nat_eq n 1 ∷ span_of (record { begin = span.begin + 1; end = span.end }) source
next_of span source bits n e some m = go bits e some m
  where
    go : (bits : Bits) → bits ≡ span_of span source → (bits ≡ [] → ⊥) → n ≡ number_of (take 1 bits) → span_of span source ≡ nat_eq n 1 ∷ span_of (record { begin = span.begin + 1; end = span.end }) source
    go [] e some m = absurd (some refl)
    go (b ∷ rest) e some m =
        let l : 1 ≤ span.end - span.begin = omega (arith, ap length e, length-take (span.end - span.begin) (drop span.begin source)) in
        let r : rest ≡ span_of (record { begin = span.begin + 1; end = span.end }) source = ap (λ z. drop 1 z) e ∙ behind span source 1 l in
        sym e ∙ one_bit (b ∷ rest) (b ∷ []) rest n refl refl m ∙ ap (λ z. nat_eq n 1 ∷ z) r

-- all bits of a source
pub span_whole : (source : Bits) (n : ℕ) → n ≡ length source → span_of (record { begin = 0; end = n }) source ≡ source
span_whole source n e = take_all (n - 0) source (omega (arith, e))

-- a span of some bits
pub some_left : (span : Span) (source bits : Bits) → bits ≡ span_of span source → (bits ≡ [] → ⊥) → 1 ≤ span.end - span.begin
some_left span source [] e some = absurd (some refl)
some_left span source (b ∷ bits) e some = omega (arith, ap length e, length-take (span.end - span.begin) (drop span.begin source))

-- no bit is where none is left
pub none_left : {s : Bits} → s ≡ [] → NoneIn bit s
none_left n b t h = let i : b ∷ t ≡ [] = ap (λ z. z ++ t) (sym h.spelled) ∙ sym h.joins ∙ n in absurd cc

pub bit_lacking : {s : Bits} → s ≡ [] → IsOfBitField 1 s (Incomplete (count_of 1))
bit_lacking {s} e = let none : length s ≡ 0 = ap length e in record { short = omega arith; missing = ap (λ (n : ℕ). Incomplete (count_of n)) {x = 1} {y = 1 - length s} (omega arith) }
