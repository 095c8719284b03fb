-- An alternative that is put where its place is (X.691 23).
use Rattle.std.specs.Prelude.{Result, Ok, Err}
use Rattle.std.proofs.Common.{◌≡◌, refl, sym, ap, ◌∙◌, subst, ℕ, Bool, true, false, leb, ◌<◌, ◌≤◌, [], replicate, Option, Some, None, arith}
use Rattle.rasn_types.specs.Bits.{Bits, to_bits}
use Rattle.rasn_types.specs.Variants.{variant_of, Variant, aligned, unaligned}
use Rattle.rasn_schema.specs.declared.items.Place.{Place}
use Rattle.per_core.specs.Counts.{constrained_whole}
use Rattle.per_core.specs.Writers.{Writer, just, pad, join, go_on, after, ◌▹◌}
use Rattle.per_pieces.specs.Pieces.{Pieces, writer_of}
use Rattle.per_core.specs.declared.encode_error.EncodeError.{EncodeError}
use Rattle.per_enc.specs.Choices.{OutsideChoice, OpensOrNot, OpensWhere, PutsWhere, is_among, placed_alternative, restored}
use Rattle.per_write.specs.Choices.{index_padding, index_width}
use Rattle.per_write.specs.Faults.{IsMemory}
use Rattle.per_write.specs.WriterState.{Puts, Frame, WriterState, StateAppends, view}
use Rattle.per_write.proofs.Indexes.{index_form}
use Rattle.per_write.proofs.Writing.{wrote_then}

-- writers whose ends write the same at each position within an octet
pub then_within : (f g h : Writer) → ((p : ℕ) → p < 8 → g p ≡ h p) → (p : ℕ) → (f ▹ g) p ≡ (f ▹ h) p
then_within f g h e p = go (f p)
  where
    go : (o : Option Bits) → go_on o g p ≡ go_on o h p
    go None = refl
    go (Some b) = ap (join b) (e (after p b) (omega arith))

-- what is in front of an index is always there
front_of_index : (a : Variant) (n p : ℕ) → (spare : Bits) × (index_padding a n p ≡ Some spare)
front_of_index unaligned n p = ([], refl)
front_of_index aligned n p = go (leb n 255) refl
  where
    go : (few : Bool) → leb n 255 ≡ few → (spare : Bits) × (index_padding aligned n p ≡ Some spare)
    go true e = ([], rw e refl)
    go false e = (replicate (pad aligned p) false, rw e refl)

-- the index of a root alternative where room is kept for it
abbrev pub kept_index : Variant → ℕ → ℕ → Writer
kept_index a n k = index_padding a n ▹ just (to_bits (index_width a n) k)

-- X.691 23.6: it is a constrained whole number
pub index_placed : (a : Variant) (n k p : ℕ) → k < n → n ≤ 65536 → kept_index a n k p ≡ constrained_whole a n k p
index_placed a n k p h u =
    let s = front_of_index a n p in
    ap (λ (o : Option Bits). go_on o (just (to_bits (index_width a n) k)) p) s.1 ∙ sym (index_form a n k p s.0 h u s.1)

-- one thing was written, and another is put
pub two_put : (x m y : WriterState) (f g : Writer) (result : Result (Unit {0}) EncodeError) → StateAppends x f m → Puts IsMemory g m result y → Puts IsMemory (f ▹ g) x result y
two_put x m y f g (Ok u) h k = record { ok = wrote_then x m y f g h k.ok; err = tt; fails = tt; kept = k.kept ∙ h.same }
two_put x m y f g (Err e) h k = record {
  ok = tt;
  err = record { kind_is = k.err.kind_is; codec_is = k.err.codec_is ∙ h.same };
  fails = k.fails;
  kept = k.kept ∙ h.same;
}

-- what was taken out is put after what waited
pub closed_without_place : (x m y : WriterState) (before value : Pieces) (scope : Frame) (marker : Bool) (n : ℕ) (place p : Place) (result : Result (Unit {0}) EncodeError) → place ≡ p → value ≡ x.pieces
    → m ≡ restored x before scope → PutsWhere (is_among n p) (placed_alternative (variant_of m.codec) marker n p (writer_of value.list)) m result y
    → PutsWhere (is_among n place) (placed_alternative (variant_of x.codec) marker n place (view x)) (restored x before scope) result y
closed_without_place x m y before value scope marker n place p result e v d h =
    subst (λ (q : Place). PutsWhere (is_among n q) (placed_alternative (variant_of x.codec) marker n q (view x)) (restored x before scope) result y) (sym e)
    (subst (λ (z : Pieces). PutsWhere (is_among n p) (placed_alternative (variant_of x.codec) marker n p (writer_of z.list)) (restored x before scope) result y) v
    (subst (λ (s : WriterState). PutsWhere (is_among n p) (placed_alternative (variant_of s.codec) marker n p (writer_of value.list)) s result y) d h))

-- a choice is opened with room for its index or without
pub opens_where : (kept there marker some : Bool) (n : ℕ) (x y : WriterState) (result : Result OutsideChoice EncodeError) → kept ≡ there → marker ≡ some → OpensOrNot (OpensWhere kept marker n x) x result y → OpensOrNot (OpensWhere there some n x) x result y
opens_where kept there marker some n x y result e f h =
    subst (λ (b : Bool). OpensOrNot (OpensWhere b some n x) x result y) e (subst (λ (b : Bool). OpensOrNot (OpensWhere kept b n x) x result y) f h)
