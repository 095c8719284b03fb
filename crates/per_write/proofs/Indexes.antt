-- The room that is made for the index of a choice.
use Rattle.std.proofs.Common.{◌≡◌, refl, sym, ap, ◌∙◌, subst, ℕ, ◌<◌, false, [], ◌++◌, replicate, Option, Some, None, ◌≤◌, Bool, true, leb, le-leb, lt-ltb, arith}
use Rattle.std.proofs.lemmas.Bool.{leb-false, leb-true, lt-leb, ne_eqb}
use Rattle.rasn_types.specs.Bits.{Bits, to_bits, width}
use Rattle.rasn_types.specs.Variants.{variant_of, Variant, aligned, unaligned}
use Rattle.rasn_types.specs.declared.types.Codec.{Codec}
use Rattle.per_core.specs.Counts.{constrained_whole}
use Rattle.per_core.specs.Writers.{pad, join}
use Rattle.per_pieces.specs.Pieces.{Pieces, bit_count, with_bits}
use Rattle.per_write.specs.Choices.{index_padding, index_width, OpensIndex}
use Rattle.per_write.specs.WriterState.{Frame, WriterState, StateAppends}

inside : {s t : Bits} → Some s ≡ Some t → s ≡ t
inside e = cc

-- the bits that a writer put after others
pub joined : (b : Bits) (o : Option Bits) (y : Bits) → Some y ≡ join b o → (c : Bits) × (o ≡ Some c) × (y ≡ b ++ c)
joined b None y e = absurd cc
joined b (Some c) y e = (c, refl, cc)

-- below 256 alternatives nothing is in front of the index
pub no_padding : (a : Variant) (n : ℕ) → n < 256 → (p : ℕ) → index_padding a n p ≡ Some []
no_padding unaligned n h p = refl
no_padding aligned n h p = rw (le-leb n 255 (omega arith)) refl

-- room is made after padding
pub index_opened : (n w : ℕ) (x m z y : WriterState) (q : Pieces) (place : ℕ) (outside : Frame) → StateAppends x (index_padding (variant_of x.codec) n) m
    → w ≡ index_width (variant_of m.codec) n → q ≡ with_bits m.pieces (replicate w false) → z ≡ record m { pieces = q } → place ≡ bit_count m.pieces.list → outside ≡ z.scope
    → y ≡ record z { scope = record { presences = record { place = place; left = 0 }; additions = None; is_open = true } } → OpensIndex n x outside y
index_opened n w x m z y q place outside h i k v l o e = record {
  begun = h.begun;
  waits = o ∙ ap (λ (s : WriterState). s.scope) v ∙ h.beside;
  unfailed = ap (λ (s : WriterState). s.failed) e ∙ ap (λ (s : WriterState). s.failed) v ∙ h.left;
  same = ap (λ (s : WriterState). s.codec) e ∙ ap (λ (s : WriterState). s.codec) v ∙ h.same;
  padded = m.pieces;
  is_padded = h.appended;
  pieces = ap (λ (s : WriterState). s.pieces) e ∙ ap (λ (s : WriterState). s.pieces) v ∙ k ∙ ap (λ (j : ℕ). with_bits m.pieces (replicate j false)) (i ∙ ap (λ (c : Codec). index_width (variant_of c) n) h.same);
  place = ap (λ (s : WriterState). s.scope) e ∙ ap (λ (j : ℕ). record { presences = record { place = j; left = 0 }; additions = None; is_open = true }) l;
}

-- X.691 11.5.7.1: the index of one of 255 alternatives or fewer
few_form : (n k p : ℕ) (spare : Bits) → k < n → n ≤ 255 → index_padding aligned n p ≡ Some spare → constrained_whole aligned n k p ≡ Some (spare ++ to_bits (index_width aligned n) k)
unfolding constrained_whole
few_form n k p spare h l q =
    let e : [] ≡ spare = inside (sym (no_padding aligned n (omega arith) p) ∙ q) in
    rw (lt-ltb k n h, le-leb n 255 l, le-leb n 256 (omega arith)) (ap (λ (bs : Bits). Some (bs ++ to_bits (width n) k)) e)

-- X.691 11.5.7.2: of 256
octet_form : (k p : ℕ) (spare : Bits) → k < 256 → index_padding aligned 256 p ≡ Some spare → constrained_whole aligned 256 k p ≡ Some (spare ++ to_bits (index_width aligned 256) k)
unfolding constrained_whole width
octet_form k p spare h q = rw (lt-ltb k 256 h) (ap (λ (bs : Bits). Some (bs ++ to_bits 8 k)) (inside q))

-- X.691 11.5.7.3: of 65536 or fewer
two_form : (n k p : ℕ) (spare : Bits) → k < n → 256 < n → n ≤ 65536 → index_padding aligned n p ≡ Some spare → constrained_whole aligned n k p ≡ Some (spare ++ to_bits (index_width aligned n) k)
unfolding constrained_whole
two_form n k p spare h l u q =
    let e : replicate (pad aligned p) false ≡ spare = inside (rw (lt-leb n 255 (omega arith)) at q) in
    rw (lt-ltb k n h, lt-leb n 255 (omega arith), ne_eqb n 256 (λ e. absurd (omega arith)), le-leb n 65536 u, lt-leb n 256 l) (ap (λ (bs : Bits). Some (bs ++ to_bits 16 k)) e)

-- of 256 or more, by whether there are more
many_form : (wide : Bool) (n k p : ℕ) (spare : Bits) → leb n 256 ≡ wide → k < n → 255 < n → n ≤ 65536 → index_padding aligned n p ≡ Some spare → constrained_whole aligned n k p ≡ Some (spare ++ to_bits (index_width aligned n) k)
many_form false n k p spare e h l u q = two_form n k p spare h (leb-false n 256 e) u q
many_form true n k p spare e h l u q =
    let i : 256 ≡ n = omega (arith, leb-true n 256 e) in
    subst (λ (m : ℕ). k < m → index_padding aligned m p ≡ Some spare → constrained_whole aligned m k p ≡ Some (spare ++ to_bits (index_width aligned m) k)) i (octet_form k p spare) h q

aligned_form : (few : Bool) (n k p : ℕ) (spare : Bits) → leb n 255 ≡ few → k < n → n ≤ 65536 → index_padding aligned n p ≡ Some spare → constrained_whole aligned n k p ≡ Some (spare ++ to_bits (index_width aligned n) k)
aligned_form true n k p spare e h u q = few_form n k p spare h (leb-true n 255 e) q
aligned_form false n k p spare e h u q = many_form (leb n 256) n k p spare refl h (leb-false n 255 e) u q

-- X.691 11.5.6, 11.5.7: the index of one of at most 65536 alternatives, after what is in front of it
pub index_form : (a : Variant) (n k p : ℕ) (spare : Bits) → k < n → n ≤ 65536 → index_padding a n p ≡ Some spare → constrained_whole a n k p ≡ Some (spare ++ to_bits (index_width a n) k)
unfolding constrained_whole
index_form unaligned n k p spare h u q = rw (lt-ltb k n h) (ap (λ (bs : Bits). Some (bs ++ to_bits (width n) k)) (inside q))
index_form aligned n k p spare h u q = aligned_form (leb n 255) n k p spare refl h u q
