-- Small numbers that are gathered in one field.
use Rattle.std.specs.Prelude.{slice_get, slice_range}
use Rattle.std.proofs.Common.{◌≡◌, refl, sym, ap, ◌∙◌, subst, false, ℕ, ◌+◌, ◌-◌, ◌*◌, ◌%◌, ◌^◌, ◌<◌, ◌≤◌, List, [], ◌++◌, map, take, drop, arith, append_assoc, append-nil, Option, Some, bit_or}
use Rattle.rasn_types.specs.Alphabets.{Alphabet, char_code, char_width}
use Rattle.rasn_types.specs.Bits.{Bits, to_bits}
use Rattle.per_bits.proofs.Joins.{behind, put_after}
use Rattle.per_bits.proofs.Words.{to_bits-join}
use Rattle.per_core.specs.Canon.{char_writers, coded}
use Rattle.per_core.specs.Writers.{Writer, after, go_on, join, just, one_by_one, ◌▹◌}
use Rattle.per_pieces.specs.Pieces.{writer_of}
use Rattle.per_pieces.proofs.Placed.{begins_then}
use Rattle.per_pieces.proofs.Writing.{then_assoc, then_nothing, then_same}
use Rattle.per_write.specs.Unwritten.{Remains}
use Rattle.per_write.specs.WriterState.{WriterState, StateAppends}
use Rattle.per_write.proofs.Steps.{next_between}
use Rattle.per_write.proofs.Writing.{remains_last}

-- a field with one number more
pub field_more : (value i number k new n : ℕ) → value < 2 ^ i → number < 2 ^ k → i + k ≤ 64 → n ≡ number → new ≡ bit_or (value * 2 ^ k % 2 ^ 64) n →
    (new < 2 ^ (i + k)) × (to_bits (i + k) new ≡ to_bits i value ++ to_bits k number)
field_more value i number k new n h l e f d =
    let is : new ≡ value * 2 ^ k + number = d ∙ ap (λ (m : ℕ). bit_or (value * 2 ^ k % 2 ^ 64) m) f ∙ put_after 64 value number i k h l (omega arith) in (
      subst (λ (m : ℕ). m < 2 ^ (i + k)) (sym is) (behind value number i k h l),
      ap (λ (m : ℕ). to_bits (i + k) m) is ∙ to_bits-join i k value number l,
    )

-- nothing was gathered or written yet
pub remains_first : (x : WriterState) (all : Writer) (bits : Bits) → bits ≡ [] → x.failed ≡ false → Remains x all x (just bits ▹ all)
remains_first x all bits e f = record {
  begun = f;
  left = f;
  same = refl;
  beside = refl;
  pieces = record {
    behind = [];
    list = sym (append-nil x.pieces.list);
    place = refl;
    written = λ p b. ap (λ (bs : Bits). (writer_of x.pieces.list ▹ (just bs ▹ all)) p) e ∙ then_assoc (writer_of x.pieces.list) (just []) all p ∙ ap (λ o. go_on o all p) (then_nothing (writer_of x.pieces.list) p);
  };
}

-- of the first of what remained so much remains
pub remains_front : (x y z : WriterState) (all f rest next : Writer) → Remains x all y (f ▹ next) → Remains y f z rest → Remains x all z (rest ▹ next)
remains_front x y z all f rest next h k = record {
  begun = h.begun;
  left = k.left;
  same = k.same ∙ h.same;
  beside = k.beside ∙ h.beside;
  pieces = record {
    behind = h.pieces.behind ++ k.pieces.behind;
    list = k.pieces.list ∙ ap (λ ps. ps ++ k.pieces.behind) h.pieces.list ∙ append_assoc x.pieces.list h.pieces.behind k.pieces.behind;
    place = k.pieces.place ∙ h.pieces.place;
    written = λ p b.
        then_assoc (writer_of z.pieces.list) rest next p
        ∙ ap (λ o. go_on o next p) (k.pieces.written p (begins_then x.pieces y.pieces h.pieces.place p b))
        ∙ sym (then_assoc (writer_of y.pieces.list) f next p)
        ∙ h.pieces.written p b;
  };
}

-- some bits, and a writer of more bits after them
pub one_more : (before bits : Bits) (f next : Writer) → ((p : ℕ) → f p ≡ Some bits) → (p : ℕ) → (just (before ++ bits) ▹ next) p ≡ (just before ▹ (f ▹ next)) p
one_more before bits f next h p = ap (λ o. go_on o next p) (sym (ap (join before) (h (after p before)))) ∙ sym (then_assoc (just before) f next p)

-- the same remains
remains_same : (x y : WriterState) (all rest same : Writer) → ((p : ℕ) → same p ≡ rest p) → Remains x all y rest → Remains x all y same
remains_same x y all rest same e h = record {
  begun = h.begun;
  left = h.left;
  same = h.same;
  beside = h.beside;
  pieces = record {
    behind = h.pieces.behind;
    list = h.pieces.list;
    place = h.pieces.place;
    written = λ p b. then_same (writer_of y.pieces.list) (writer_of y.pieces.list) same rest (λ q. refl) e p ∙ h.pieces.written p b;
  };
}

-- one character more is gathered
pub gathered_character : (a : Alphabet) (cs : List ℕ) (i e c code : ℕ) (all : Writer) (x y z : WriterState) (before behind : Bits) → i < e → slice_get cs i ≡ Some c → char_code a.variant a.characters c ≡ Some code →
    Remains x all y (just before ▹ one_by_one (slice_range (char_writers a.variant a.characters cs) i e)) → Remains y (just (before ++ to_bits (char_width a.variant a.characters) code)) z (just behind) →
    Remains x all z (just behind ▹ one_by_one (slice_range (char_writers a.variant a.characters cs) (i + 1) e))
unfolding char_writers
gathered_character a cs i e c code all x y z before behind h g k r w =
    let width = char_width a.variant a.characters in
    let f = λ (d : ℕ). coded width (char_code a.variant a.characters d) in
    let next = one_by_one (slice_range (map f cs) (i + 1) e) in
    let bits = to_bits width code in
    remains_front x y z all (just (before ++ bits)) (just behind) next
    (remains_same x y all (just before ▹ one_by_one (slice_range (map f cs) i e)) (just (before ++ bits) ▹ next)
    (λ p. one_more before bits (f c) next (λ q. ap (λ (o : Option ℕ). coded width o q) k) p
    ∙ sym (ap (λ (ws : List Writer). (just before ▹ one_by_one ws) p) (next_between f cs i e c h g))) r) w

-- what was gathered of the last characters is written
pub gathered_last : (ws : List Writer) (i e : ℕ) (all : Writer) (x y z : WriterState) (bits : Bits) → e ≤ i → Remains x all y (just bits ▹ one_by_one (slice_range ws i e)) → StateAppends y (just bits) z → StateAppends x all z
gathered_last ws i e all x y z bits h r w =
    remains_last x y z all (just bits ▹ one_by_one (slice_range ws i e)) (just bits) r
    (λ p. ap (λ (n : ℕ). (just bits ▹ one_by_one (take n (drop i ws))) p) (let d : e - i ≡ 0 = omega arith in d) ∙ then_nothing (just bits) p) w
