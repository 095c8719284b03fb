-- Additions that are given one after another, and stand after the root where the SEQUENCE is closed (ITU-T X.691, 19.7 to 19.9).
use Rattle.std.proofs.Common.{◌≡◌, refl, sym, ap, ap₂, ◌∙◌, subst, ℕ, Bool, true, false, List, [], ◌∷◌, ◌++◌, length, Option, Some, None, arith, append-nil, append_assoc, length-append}
use Rattle.rasn_types.specs.Bits.{Bits}
use Rattle.rasn_types.specs.Values.{Value}
use Rattle.rasn_types.specs.Variants.{Variant}
use Rattle.per_core.specs.Canon.{Member, also_bit, any_set, bitmap, bitmap_of, opens_of, shown, with_additions}
use Rattle.per_core.specs.Counts.{open_bits}
use Rattle.per_core.specs.Writers.{Writer, after, go_on, join, just, padding, ◌▹◌}
use Rattle.per_pieces.specs.Pieces.{Piece, bit, Pieces, MayBegin, bit_count, set_bit, placed_bits, writer_of}
use Rattle.per_pieces.proofs.Placed.{set_seam, settle_append, settled_then}
use Rattle.per_write.specs.Additions.{open_if, with_next}
use Rattle.per_write.specs.Records.{ExtendedAfter, after_root, to_be_given}
use Rattle.per_write.specs.WriterState.{Additions, AppendsBits}
use Rattle.per_write.proofs.Indexes.{joined}
use Rattle.per_write.proofs.OpenTypes.{opens_at}
use Rattle.per_pieces.proofs.Writing.{then_assoc, then_nothing, then_same}
use Rattle.per_write.proofs.Writing.{bits_then}

-- additions were given, one after another: after those that were there, their bits and their open types
pub record Gathers (a : Variant) (ms : List Member) (ss : List (Option Value)) (k l : Additions) : Type 0 where
  pub flags : Bits
  pub is_bitmap : bitmap_of ms ss ≡ Some flags
  pub all : l.flags ≡ k.flags ++ flags
  pub opens : AppendsBits k.opens (opens_of a ms ss flags) l.opens
  pub extension : l.extension ≡ k.extension
  pub count : l.count ≡ k.count

pub gathers_none : (a : Variant) (k : Additions) → Gathers a [] [] k k
unfolding bitmap_of
gathers_none a k = record {
  flags = [];
  is_bitmap = refl;
  all = sym (append-nil k.flags);
  opens = ap Some (sym (append-nil k.opens));
  extension = refl;
  count = refl;
}

absent_opens : (a : Variant) (m : Member) (ms : List Member) (s : Option Value) (ss : List (Option Value)) (bs : Bits) → opens_of a (m ∷ ms) (s ∷ ss) (false ∷ bs) ≡ opens_of a ms ss bs
absent_opens a m ms None ss bs = refl
absent_opens a m ms (Some v) ss bs = refl

-- the first of them is absent
pub gathers_absent : (a : Variant) (m : Member) (ms : List Member) (s : Option Value) (ss : List (Option Value)) (k l : Additions) → shown m.presence s ≡ Some false → Gathers a ms ss (with_next k false k.opens) l →
    Gathers a (m ∷ ms) (s ∷ ss) k l
unfolding bitmap_of
gathers_absent a m ms s ss k l e h = record {
  flags = false ∷ h.flags;
  is_bitmap = ap₂ also_bit e h.is_bitmap;
  all = h.all ∙ append_assoc k.flags (false ∷ []) h.flags;
  opens = subst (λ (w : Writer). AppendsBits k.opens w l.opens) (sym (absent_opens a m ms s ss h.flags)) h.opens;
  extension = h.extension;
  count = h.count;
}

-- the first of them is there
pub gathers_there : (a : Variant) (m : Member) (ms : List Member) (v : Value) (ss : List (Option Value)) (k l : Additions) (contents opens : Bits) → shown m.presence (Some v) ≡ Some true → m.writes v 0 ≡ Some contents →
    AppendsBits k.opens (open_if a true contents) opens → Gathers a ms ss (with_next k true opens) l → Gathers a (m ∷ ms) (Some v ∷ ss) k l
unfolding bitmap_of
gathers_there a m ms v ss k l contents opens e w o h = record {
  flags = true ∷ h.flags;
  is_bitmap = ap₂ also_bit e h.is_bitmap;
  all = h.all ∙ append_assoc k.flags (true ∷ []) h.flags;
  opens = bits_then k.opens opens l.opens (open_bits a (m.writes v 0)) (opens_of a ms ss h.flags) (subst (λ (c : Option Bits). AppendsBits k.opens (open_bits a c) opens) (sym w) o) h.opens;
  extension = h.extension;
  count = h.count;
}

-- what is after some pieces, from a position on
abbrev pub AppendsAt : ℕ → List Piece → Writer → List Piece → Type 0
AppendsAt p front f y = writer_of y p ≡ (writer_of front ▹ f) p

pub at_then : (p : ℕ) (x y z : List Piece) (f g : Writer) → AppendsAt p x f y → AppendsAt p y g z → AppendsAt p x (f ▹ g) z
at_then p x y z f g h k = k ∙ ap (λ o. go_on o g p) h ∙ sym (then_assoc (writer_of x) f g p)

at_same : (p : ℕ) (x y : List Piece) (f g : Writer) → ((q : ℕ) → f q ≡ g q) → AppendsAt p x f y → AppendsAt p x g y
at_same p x y f g e h = h ∙ ap (join (placed_bits x p)) (e (after p (placed_bits x p)))

at_bit : (p : ℕ) (front : List Piece) (b : Bool) → AppendsAt p front (just (b ∷ [])) (front ++ bit b ∷ [])
at_bit p front b = settled_then front (bit b ∷ []) p

same_after : (xs ys zs : Bits) → xs ++ ys ≡ xs ++ zs → ys ≡ zs
same_after [] ys zs e = e
same_after (x ∷ xs) ys zs e = same_after xs ys zs cc

-- the bits of pieces after others, as they were to be written
pub after_at : (p : ℕ) (x ps : List Piece) (f : Writer) → AppendsAt p x f (x ++ ps) → f (after p (placed_bits x p)) ≡ Some (placed_bits ps (after p (placed_bits x p)))
after_at p x ps f h =
    let q = after p (placed_bits x p) in
    let j = joined (placed_bits x p) (f q) (placed_bits (x ++ ps) p) h in
    j.1 ∙ ap Some (sym (same_after (placed_bits x p) (placed_bits ps q) j.0 (sym (settle_append x ps p) ∙ j.2)))

-- a root after the extension bit, whichever this is
other_bit : (p : ℕ) (front root : List Piece) (inner : Writer) (b : Bool) → AppendsAt p (front ++ bit false ∷ []) inner ((front ++ bit false ∷ []) ++ root) → AppendsAt p (front ++ bit b ∷ []) inner ((front ++ bit b ∷ []) ++ root)
other_bit p front root inner b h =
    let x = front ++ bit false ∷ [] in
    let y = front ++ bit b ∷ [] in
    let same : after p (placed_bits y p) ≡ after p (placed_bits x p) = omega (
      arith,
      ap length (settle_append front (bit false ∷ []) p),
      ap length (settle_append front (bit b ∷ []) p),
      length-append (placed_bits front p) (false ∷ []),
      length-append (placed_bits front p) (b ∷ []),
    ) in
    let root_is : inner (after p (placed_bits y p)) ≡ Some (placed_bits root (after p (placed_bits y p))) =
    subst (λ (q : ℕ). inner q ≡ Some (placed_bits root q)) (sym same) (after_at p x root inner h) in
    settled_then y root p ∙ sym (ap (join (placed_bits y p)) root_is)

-- X.691 19.1: no addition is there
closed_without : (p : ℕ) (a : Variant) (ms : List Member) (ss : List (Option Value)) (front j : List Piece) (bs : Bits) (inner : Writer) → any_set bs ≡ false → AppendsAt p (front ++ bit false ∷ []) inner j →
    AppendsAt p front (with_additions a true ms ss inner (Some bs)) j
closed_without p a ms ss front j bs inner t h =
    at_same p front j (just (false ∷ []) ▹ inner) (with_additions a true ms ss inner (Some bs))
    (λ q. rw t (then_same (just (false ∷ [])) (just (false ∷ [])) inner (inner ▹ just []) (λ r. refl) (λ r. sym (then_nothing inner r)) q))
    (at_then p front (front ++ bit false ∷ []) j (just (false ∷ [])) inner (at_bit p front false) h)

-- X.691 19.7 to 19.9: an addition is there
closed_with : (p : ℕ) (a : Variant) (ms : List Member) (ss : List (Option Value)) (front root y : List Piece) (k : Additions) (inner : Writer) → bitmap_of ms ss ≡ Some k.flags → any_set k.flags ≡ true → opens_of a ms ss k.flags 0 ≡ Some k.opens →
    k.extension ≡ bit_count front → AppendsAt p (front ++ bit false ∷ []) inner ((front ++ bit false ∷ []) ++ root) → AppendsAt p (set_bit ((front ++ bit false ∷ []) ++ root) k.extension true) (after_root a k) y →
    AppendsAt p front (with_additions a true ms ss inner (Some k.flags)) y
closed_with p a ms ss front root y k inner e t o d h c =
    let extended : set_bit ((front ++ bit false ∷ []) ++ root) k.extension true ≡ (front ++ bit true ∷ []) ++ root =
    ap₂ (λ (ps : List Piece) (i : ℕ). set_bit ps i true) (append_assoc front (bit false ∷ []) root) d ∙ set_seam front root false true ∙ sym (append_assoc front (bit true ∷ []) root) in
    at_same p front y (just (true ∷ []) ▹ (inner ▹ after_root a k)) (with_additions a true ms ss inner (Some k.flags))
    (λ q. rw t (then_same (just (true ∷ [])) (just (true ∷ [])) (inner ▹ after_root a k) (inner ▹ (bitmap a k.flags ▹ opens_of a ms ss k.flags)) (λ r. refl)
    (then_same inner inner (after_root a k) (bitmap a k.flags ▹ opens_of a ms ss k.flags) (λ r. refl)
    (then_same (bitmap a k.flags) (bitmap a k.flags) (padding a ▹ just k.opens) (opens_of a ms ss k.flags) (λ r. refl) (λ r. sym (opens_at a ms ss k.flags k.opens e t o r)))) q))
    (at_then p front (front ++ bit true ∷ []) y (just (true ∷ [])) (inner ▹ after_root a k) (at_bit p front true)
    (at_then p (front ++ bit true ∷ []) ((front ++ bit true ∷ []) ++ root) y inner (after_root a k) (other_bit p front root inner true h)
    (subst (λ (ps : List Piece). AppendsAt p ps (after_root a k) y) extended c)))

-- X.691 19: a SEQUENCE with an extension marker that is closed: after some pieces, the extension bit, the root, and the additions
pub closed_form : (p : ℕ) (a : Variant) (ms : List Member) (ss : List (Option Value)) (front root : List Piece) (j y : Pieces) (n : ℕ) (k : Additions) (inner : Writer) → MayBegin j p → Gathers a ms ss (to_be_given (bit_count front) n) k →
    j.list ≡ (front ++ bit false ∷ []) ++ root → AppendsAt p (front ++ bit false ∷ []) inner j.list → ExtendedAfter a k (any_set k.flags) j y → AppendsAt p front (with_additions a true ms ss inner (bitmap_of ms ss)) y.list
closed_form p a ms ss front root j y n k inner b g r h c =
    subst (λ (o : Option Bits). AppendsAt p front (with_additions a true ms ss inner o) y.list) (sym is_bitmap) (go (any_set k.flags) refl c)
  where
    is_bitmap : bitmap_of ms ss ≡ Some k.flags
    is_bitmap = g.is_bitmap ∙ ap Some (sym g.all)

    opens : opens_of a ms ss k.flags 0 ≡ Some k.opens
    opens = ap (λ (bs : Bits). opens_of a ms ss bs 0) g.all ∙ sym (nothing (opens_of a ms ss g.flags 0)) ∙ sym g.opens
      where
        nothing : (o : Option Bits) → join [] o ≡ o
        nothing None = refl
        nothing (Some b) = refl

    go : (t : Bool) → any_set k.flags ≡ t → ExtendedAfter a k t j y → AppendsAt p front (with_additions a true ms ss inner (Some k.flags)) y.list
    go false t d = closed_without p a ms ss front y.list k.flags inner t (subst (λ (z : Pieces). AppendsAt p (front ++ bit false ∷ []) inner z.list) (sym d) h)
    go true t d =
        closed_with p a ms ss front root y.list k inner is_bitmap t opens g.extension (subst (λ (ps : List Piece). AppendsAt p (front ++ bit false ∷ []) inner ps) r h)
        (subst (λ (ps : List Piece). AppendsAt p (set_bit ps k.extension true) (after_root a k) y.list) r (d.written p b))
