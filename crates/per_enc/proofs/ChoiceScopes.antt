-- What the scope of a choice presents, and how it refuses.
use Rattle.std.specs.Prelude.{◌==◌, ◌&&◌, OnErr, Result, Ok, Err}
use Rattle.std.proofs.Common.{◌≡◌, refl, sym, ap, ap₂, ◌∙◌, subst, inl, ℕ, zero, suc, Bool, true, false, List, [], ◌∷◌, ◌++◌, length, replicate, Option, Some, None, arith, append_assoc, is_some, leb, length-append, lt-ltb, ◌+◌, ◌<◌, ◌≤◌}
use Rattle.std.proofs.lemmas.List.{append_cancel_left, length-replicate}
use Rattle.std.proofs.lemmas.Bool.{eqb-true, leb-true}
use Rattle.rasn_types.specs.Bits.{Bits, to_bits}
use Rattle.rasn_types.proofs.Bits.{length-to_bits}
use Rattle.rasn_types.specs.Variants.{variant_of, Variant}
use Rattle.rasn_types.specs.Values.{Value, alternative, Side, root, added}
use Rattle.rasn_types.specs.declared.types.Codec.{Codec}
use Rattle.rasn_schema.specs.Enumerations.{addeds_of}
use Rattle.rasn_schema.specs.Choices.{StandsAt, VariantShape, choices_of, is_extensible, place_of, variants_after}
use Rattle.rasn_schema.specs.Choices.{variants_of, variants_on}
use Rattle.rasn_schema.specs.Structures.{alternative_at, alternative_in, choice_schema, tags_of}
use Rattle.rasn_schema.specs.Laws.Choices.{variants_counted}
use Rattle.rasn_schema.specs.Schemas
use Rattle.rasn_schema.specs.Schemas.{Schema, Parts, no_parts, part}
use Rattle.rasn_schema.specs.declared.items.Place.{Place}
use Rattle.rasn_schema.specs.declared.items.Place.TheVariants.{Root, Added}
use Rattle.rasn_traits.specs.Calls.{Written}
use Rattle.rasn_traits.specs.Choices.{PassesChoice, OpenedChoice}
use Rattle.per_core.specs.Canon.{canon, members, chosen, choice_of as choice_writer, extension_bit}
use Rattle.per_core.specs.Counts.{constrained_whole, open_bits, small}
use Rattle.per_core.specs.Writers.{Writer, just, ◌▹◌, join, go_on, after}
use Rattle.per_pieces.specs.Pieces.{Piece, Pieces, bits_of, bit_count, unplaced, plain, placed_bits, writer_of}
use Rattle.per_pieces.proofs.Placed.{bits_of_append, bits_of_plain, settle_append, settle_plain}
use Rattle.per_pieces.proofs.Writing.{none_after, then_assoc, then_same}
use Rattle.per_enc.specs.Choices.{ClosesChoiceOf, ClosesAfter, OutsideChoice, OpensChoiceOf, OpensUnplaced, OpensInPlace, OpensOrNot, OpensWhere, PutsWhere, is_among, keeps_room, placed_alternative, restored}
use Rattle.per_write.specs.Choices.{FillsIndexOrNot, IsFilled, OpensIndex, index_padding, index_width}
use Rattle.per_core.specs.declared.encode_error.EncodeError.{EncodeError}
use Rattle.per_core.specs.declared.encode_error.EncodeErrorKind.{EncodeErrorKind}
use Rattle.per_core.specs.declared.encode_error.EncodeErrorKind.TheVariants.{SizeConstraintNotSatisfied}
use Rattle.per_core.specs.declared.encode_error.EncodeErrorKind.TheVariants.{ValueConstraintNotSatisfied}
use Rattle.per_core.specs.declared.encode_error.EncodeErrorKind.TheVariants.{AlphabetConstraintNotSatisfied}
use Rattle.per_core.specs.declared.encode_error.EncodeErrorKind.TheVariants.{IntegerTypeConversionFailed}
use Rattle.per_core.specs.declared.encode_error.EncodeErrorKind.TheVariants.{VariantNotInChoice, RealNotSupported}
use Rattle.per_core.specs.declared.encode_error.EncodeErrorKind.TheVariants.{TooManyAdditions, Below, AlreadyFailed}
use Rattle.per_core.specs.declared.encode_error.EncodeErrorKind.TheVariants.{OutOfMemory, OutOfTurn, WrongKind}
use Rattle.per_write.specs.Faults.{IsMemory, RefusesValue, Stands}
use Rattle.per_core.specs.WritingFaults.{in_alternative}
use Rattle.per_write.specs.Rules.{encoder_rules}
use Rattle.per_write.specs.WriterState.{Puts, Frame, WriterState, Presents, StateAppends, empty_scope, view}
use Rattle.per_write.proofs.Indexes.{joined}
use Rattle.per_enc.proofs.Placing.{index_placed, kept_index, then_within}
use Rattle.per_write.proofs.Refusing.{no_contents}
use Rattle.per_write.proofs.Writing.{wrote_same, wrote_then}
use Rattle.per_enc.specs.AlternativeCounts.{OpensChoice, counted_variants}
use Rattle.per_enc.specs.Records.{after_marker}

length-members : (a : Variant) (ps : Parts) → length (members a ps) ≡ length (tags_of ps)
unfolding canon
length-members a no_parts = refl
length-members a (part t p s ps) = ap suc (length-members a ps)

pub chosen_at : (a : Variant) (ps : Parts) (k : ℕ) (s : Schema) (v : Value) → alternative_at ps k ≡ Some s → (p : ℕ) → chosen (members a ps) k v p ≡ canon a s v p
unfolding canon
chosen_at a no_parts k s v e p = absurd cc
chosen_at a (part t q c ps) zero s v e p = let i : c ≡ s = cc in ap (λ z. canon a z v p) i
chosen_at a (part t q c ps) (suc k) s v e p = chosen_at a ps k s v e p

index_below : (ps : Parts) (k : ℕ) (s : Schema) → alternative_at ps k ≡ Some s → k < length (tags_of ps)
index_below no_parts k s e = absurd cc
index_below (part t q c ps) zero s e = omega arith
index_below (part t q c ps) (suc k) s e = let h = index_below ps k s e in omega arith

-- nothing in front changes nothing
pub from_start : (g : Writer) (p : ℕ) → p < 8 → (just [] ▹ g) p ≡ g p
from_start g p h = let e : after p [] ≡ p = omega arith in ap (λ (q : ℕ). join [] (g q)) e ∙ alone (g p)
  where
    alone : (o : Option Bits) → join [] o ≡ o
    alone None = refl
    alone (Some b) = refl

-- X.691 23.5 to 23.7: a root alternative: its extension bit, its index and its value
pub root_form : (a : Variant) (ps : Parts) (marker : Bool) (qs : Parts) (k : ℕ) (v : Value) (p : ℕ) →
    (extension_bit marker false ▹ (constrained_whole a (length (members a ps)) k ▹ chosen (members a ps) k v)) p ≡ canon a (choice_schema ps marker qs) (alternative root k v) p
unfolding canon choice_writer
root_form a ps marker qs k v p = refl

-- X.691 23.5, 23.8: an added alternative: its extension bit, its index and an open type
pub added_form : (a : Variant) (ps : Parts) (marker : Bool) (qs : Parts) (k : ℕ) (v : Value) (p : ℕ) →
    (extension_bit marker true ▹ (small a k ▹ open_bits a (chosen (members a qs) k v 0))) p ≡ canon a (choice_schema ps marker qs) (alternative added k v) p
unfolding canon choice_writer
added_form a ps marker qs k v p = refl

-- an alternative's fault is one of the choice
stands_in_alternative : (kind : EncodeErrorKind) (x m : WriterState) (ps : Parts) (marker : Bool) (qs : Parts) (d : Side) (k : ℕ) (s : Schema) (v : Value) → m.failed ≡ false
    → alternative_in (choice_schema ps marker qs) d k ≡ Some s → Stands kind m s v → Stands kind x (choice_schema ps marker qs) (alternative d k v)
stands_in_alternative (ValueConstraintNotSatisfied told) x m ps marker qs d k s v f h t = in_alternative h t
stands_in_alternative IntegerTypeConversionFailed x m ps marker qs d k s v f h t = in_alternative h t
stands_in_alternative AlreadyFailed x m ps marker qs d k s v f h t = absurd cc
stands_in_alternative (SizeConstraintNotSatisfied told) x m ps marker qs d k s v f h t = in_alternative h t
stands_in_alternative AlphabetConstraintNotSatisfied x m ps marker qs d k s v f h t = in_alternative h t
stands_in_alternative VariantNotInChoice x m ps marker qs d k s v f h t = absurd t
stands_in_alternative RealNotSupported x m ps marker qs d k s v f h t = in_alternative h t
stands_in_alternative TooManyAdditions x m ps marker qs d k s v f h t = absurd t
stands_in_alternative Below x m ps marker qs d k s v f h t = in_alternative h t
stands_in_alternative OutOfMemory x m ps marker qs d k s v f h t = absurd t
stands_in_alternative OutOfTurn x m ps marker qs d k s v f h t = in_alternative h t
stands_in_alternative WrongKind x m ps marker qs d k s v f h t = in_alternative h t

-- a choice whose alternative has no encoding has none
none_written : (a : Variant) (ps : Parts) (marker : Bool) (qs : Parts) (d : Side) (k : ℕ) (s : Schema) (v : Value) → alternative_in (choice_schema ps marker qs) d k ≡ Some s → ((q : ℕ) → canon a s v q ≡ None)
    → (p : ℕ) → canon a (choice_schema ps marker qs) (alternative d k v) p ≡ None
none_written a ps marker qs root k s v h n p =
    let w = constrained_whole a (length (members a ps)) k in
    let body = chosen (members a ps) k v in
    sym (root_form a ps marker qs k v p)
    ∙ none_after (extension_bit marker false p) (w ▹ body) p (λ q. none_after (w q) body q (λ r. chosen_at a ps k s v h r ∙ n r))
none_written a ps marker qs added k s v h n p =
    let body = open_bits a (chosen (members a qs) k v 0) in
    sym (added_form a ps marker qs k v p)
    ∙ none_after (extension_bit marker true p) (small a k ▹ body) p
    (λ q. none_after (small a k q) body q (λ r. ap (λ (o : Option Bits). open_bits a o r) (chosen_at a qs k s v h 0 ∙ n 0) ∙ no_contents a r))

pub refuses_choice : (e : EncodeError) (x i : WriterState) (ps : Parts) (marker : Bool) (qs : Parts) (d : Side) (k : ℕ) (s : Schema) (v : Value) → i.failed ≡ false → i.codec ≡ x.codec
    → alternative_in (choice_schema ps marker qs) d k ≡ Some s → RefusesValue e i s v → RefusesValue e x (choice_schema ps marker qs) (alternative d k v)
refuses_choice e x i ps marker qs d k s v f c a r = record {
  none = λ g p. none_written (variant_of x.codec) ps marker qs d k s v a (λ q. ap (λ (b : Codec). canon (variant_of b) s v q) (sym c) ∙ r.none f q) p;
  stands = stands_in_alternative e.kind x i ps marker qs d k s v f a r.stands;
  codec_is = r.codec_is ∙ c;
}

-- inside a choice the encoder hasn't failed, and its variant is that of before
opened_well : (kept marker : Bool) (n : ℕ) (x i : WriterState) (o : OutsideChoice) → OpensWhere kept marker n x o i → (i.failed ≡ false) × (i.codec ≡ x.codec)
opened_well true marker n x i o h = (h.opened.unfailed, h.opened.same ∙ h.marked.same)
opened_well false marker n x i o h = (ap (λ (z : WriterState). z.failed) h.same ∙ h.begun, ap (λ (z : WriterState). z.codec) h.same)

-- what passes out of a choice that is opened
passes_choice : (x i : WriterState) (o : OutsideChoice) (ps : Parts) (marker : Bool) (qs : Parts) → OpensChoice (choice_schema ps marker qs) x o i → PassesChoice encoder_rules (choice_schema ps marker qs) x i
passes_choice x i o ps marker qs h =
    let n = length (tags_of ps) in
    let behind = after_marker marker (length (tags_of qs)) in
    let w = opened_well (keeps_room n behind) (is_some behind) n x i o h in
    record {
      room = λ e m. record { kind_is = m.kind_is; codec_is = m.codec_is ∙ w.1 };
      of_choice = λ e d k s v a r. refuses_choice e x i ps marker qs d k s v w.0 w.1 a r;
    }

-- a choice that is opened by how many alternatives it has
pub opens_choice : (alternatives : ℕ → Parts) (xs : Option (List VariantShape)) (behind : ℕ → Parts) (count : ℕ) (more : Option ℕ) (x i : WriterState) (result : Result OutsideChoice EncodeError)
    → ((n : ℕ) → count ≡ length (tags_of (alternatives n))) → ((n : ℕ) → more ≡ after_marker (is_extensible xs) (length (tags_of (behind n)))) → OpensOrNot (OpensChoiceOf count more x) x result i
    → OpenedChoice encoder_rules OpensChoice (choices_of alternatives xs behind) x result i
opens_choice alternatives xs behind count more x i (Ok o) e f c = λ n.
    let h : OpensChoice (choices_of alternatives xs behind n) x o i =
    subst (λ (m : ℕ). OpensChoiceOf m (after_marker (is_extensible xs) (length (tags_of (behind n)))) x o i) (e n) (subst (λ (q : Option ℕ). OpensChoiceOf count q x o i) (f n) c.ok) in
    (h, passes_choice x i o (alternatives n) (is_extensible xs) (behind n) h)
opens_choice alternatives xs behind count more x i (Err d) e f c = inl c.err

-- how many added alternatives a type states
pub added_counted : (xs : Option (List VariantShape)) (qs : Parts) → variants_after xs ≡ variants_of qs → counted_variants xs ≡ after_marker (is_extensible xs) (length (tags_of qs))
added_counted None qs e = refl
added_counted (Some vs) qs e = ap Some (variants_counted qs e)

-- what is after some zeros is after as many other bits
body_written : (front : List Piece) (zeros bits : Bits) (body : List Piece) (f : Writer) (p : ℕ) → length bits ≡ length zeros → writer_of ((front ++ plain zeros) ++ body) p ≡ (writer_of (front ++ plain zeros) ▹ f) p
    → writer_of (front ++ (plain bits ++ body)) p ≡ (writer_of front ▹ (just bits ▹ f)) p
body_written front zeros bits body f p l h =
    let inside = placed_bits front p in
    let all = placed_bits (front ++ plain zeros) p in
    let r = after p inside in
    let q = after p all in
    let j = joined all (f q) (placed_bits ((front ++ plain zeros) ++ body) p) h in
    let rest : placed_bits body q ≡ j.0 = append_cancel_left all (placed_bits body q) j.0 (sym (settle_append (front ++ plain zeros) body p) ∙ j.2) in
    let wrote : f q ≡ Some (placed_bits body q) = j.1 ∙ ap Some (sym rest) in
    let size : length all ≡ length inside + length zeros =
    ap length (settle_append front (plain zeros) p ∙ ap (λ (bs : Bits). inside ++ bs) (settle_plain zeros r)) ∙ length-append inside zeros in
    let there : q ≡ after r bits = omega (arith, size, l) in
    ap Some (settle_append front (plain bits ++ body) p ∙ ap (λ (bs : Bits). inside ++ bs)
    (settle_append (plain bits) body r ∙ ap (λ (bs : Bits). bs ++ placed_bits body (after r bs)) (settle_plain bits r)))
    ∙ ap (λ (o : Option Bits). join inside (join bits o)) (sym (ap f (sym there) ∙ wrote ∙ ap (λ (m : ℕ). Some (placed_bits body m)) there))

module _ (n k : ℕ) (x i j : WriterState) (o : Frame) (value : Writer) (h : OpensIndex n x o i) (v : StateAppends i value j) where
  -- what was written from the room for the index on
  from_room : j.pieces.list ≡ (h.padded.list ++ plain (replicate (index_width (variant_of x.codec) n) false)) ++ v.appended.behind
  from_room = v.appended.list ∙ ap (λ (z : Pieces). z.list ++ v.appended.behind) h.pieces

  room_at : j.scope.presences.place ≡ bit_count h.padded.list
  room_at = ap (λ (q : Frame). q.presences.place) (v.beside ∙ h.place)

  -- the index is in the room that was made for it
  wrote_in_place : (y : WriterState) → IsFilled j.scope.presences.place (index_width (variant_of j.codec) n) k j.pieces.list y.pieces.list → y.pieces.placed ≡ j.pieces.placed
      → y ≡ record j { pieces = y.pieces; scope = o } → StateAppends x (kept_index (variant_of x.codec) n k ▹ value) y
  wrote_in_place y f g t =
      let a = variant_of x.codec in
      let w = index_width a n in
      let zeros = replicate w false in
      let bits = to_bits w k in
      let body = v.appended.behind in
      let same : j.codec ≡ x.codec = v.same ∙ h.same in
      let filled : IsFilled j.scope.presences.place w k j.pieces.list y.pieces.list = subst (λ (c : Codec). IsFilled j.scope.presences.place (index_width (variant_of c) n) k j.pieces.list y.pieces.list) same f in
      let list : y.pieces.list ≡ h.padded.list ++ (plain bits ++ body) = filled h.padded.list body (from_room ∙ append_assoc h.padded.list (plain zeros) body) room_at in
      let begins : i.pieces.placed ≡ x.pieces.placed = ap (λ (z : Pieces). z.placed) h.pieces ∙ h.is_padded.place in
      let sized : length bits ≡ length zeros = length-to_bits w k ∙ sym (length-replicate w false) in
      record {
        begun = h.begun;
        left = ap (λ (z : WriterState). z.failed) t ∙ v.left;
        same = ap (λ (z : WriterState). z.codec) t ∙ same;
        beside = ap (λ (z : WriterState). z.scope) t ∙ h.waits;
        appended = record {
          behind = h.is_padded.behind ++ (plain bits ++ body);
          list = list ∙ ap (λ (ps : List Piece). ps ++ (plain bits ++ body)) h.is_padded.list ∙ append_assoc x.pieces.list h.is_padded.behind (plain bits ++ body);
          place = g ∙ v.appended.place ∙ begins;
          written = λ p b.
              let inside : writer_of ((h.padded.list ++ plain zeros) ++ body) p ≡ (writer_of (h.padded.list ++ plain zeros) ▹ value) p =
              ap (λ (ps : List Piece). writer_of ps p) (sym from_room) ∙ v.appended.written p (λ e. b (sym begins ∙ e)) ∙ ap (λ (z : Pieces). (writer_of z.list ▹ value) p) h.pieces in
              ap (λ (ps : List Piece). writer_of ps p) list ∙ body_written h.padded.list zeros bits body value p sized inside
              ∙ ap (λ (q : Option Bits). go_on q (just bits ▹ value) p) (h.is_padded.written p b)
              ∙ sym (then_assoc (writer_of x.pieces.list) (index_padding a n) (just bits ▹ value) p)
              ∙ then_same (writer_of x.pieces.list) (writer_of x.pieces.list) (index_padding a n ▹ (just bits ▹ value)) ((index_padding a n ▹ just bits) ▹ value) (λ q. refl) (then_assoc (index_padding a n) (just bits) value) p;
        };
      }

  -- the room for an index is there after the alternative
  room_left : bit_count j.pieces.list < j.scope.presences.place + index_width (variant_of j.codec) n → ⊥
  room_left l =
      let w = index_width (variant_of x.codec) n in
      let zeros = replicate w false in
      let front = h.padded.list ++ plain zeros in
      let wide : index_width (variant_of j.codec) n ≡ w = ap (λ (c : Codec). index_width (variant_of c) n) (v.same ∙ h.same) in
      let all : bit_count j.pieces.list ≡ length (bits_of front) + length (bits_of v.appended.behind) =
      ap bit_count from_room ∙ ap length (bits_of_append front v.appended.behind) ∙ length-append (bits_of front) (bits_of v.appended.behind) in
      let first : length (bits_of front) ≡ bit_count h.padded.list + w =
      ap length (bits_of_append h.padded.list (plain zeros)) ∙ length-append (bits_of h.padded.list) (bits_of (plain zeros)) ∙ ap (λ (m : ℕ). bit_count h.padded.list + m) (ap length (bits_of_plain zeros) ∙ length-replicate w false) in
      let place = room_at in
      absurd (omega (arith, l, place, all, first, wide))

-- X.691 23.5 to 23.7: the index and then the value, from each position
placed_root : (a : Variant) (ps : Parts) (marker : Bool) (qs : Parts) (k : ℕ) (s : Schema) (v : Value) (index value : Writer) → ((q : ℕ) → index q ≡ constrained_whole a (length (tags_of ps)) k q) → alternative_at ps k ≡ Some s
    → ((q : ℕ) → q < 8 → value q ≡ canon a s v q) → (p : ℕ) → (extension_bit marker false ▹ (index ▹ value)) p ≡ canon a (choice_schema ps marker qs) (alternative root k v) p
placed_root a ps marker qs k s v index value f h e p =
    let ms = members a ps in
    let inner : (q : ℕ) → (index ▹ value) q ≡ (constrained_whole a (length ms) k ▹ chosen ms k v) q =
    λ q. then_within index value (chosen ms k v) (λ r l. e r l ∙ sym (chosen_at a ps k s v h r)) q
    ∙ ap (λ (b : Option Bits). go_on b (chosen ms k v) q) (f q ∙ ap (λ (m : ℕ). constrained_whole a m k q) (sym (length-members a ps))) in
    then_same (extension_bit marker false) (extension_bit marker false) (index ▹ value) (constrained_whole a (length ms) k ▹ chosen ms k v) (λ q. refl) inner p
    ∙ root_form a ps marker qs k v p

-- a choice for whose index room was kept
closes_in_place : (x i j y : WriterState) (o : OutsideChoice) (ps : Parts) (marker : Bool) (qs : Parts) (k : ℕ) (s : Schema) (v : Value) (result : Result (Unit {0}) EncodeError) → length (tags_of ps) ≤ 65536
    → OpensInPlace marker (length (tags_of ps)) x o i → alternative_at ps k ≡ Some s → Presents i s v j → ClosesAfter o.before marker (length (tags_of ps)) (Root k) o.scope j result y
    → Written encoder_rules (choice_schema ps marker qs) (alternative root k v) x result y
closes_in_place x i j y o ps marker qs k s v (Ok u) few h a w d =
    let n = length (tags_of ps) in
    let variant = variant_of x.codec in
    let c : FillsIndexOrNot n k o.scope j (Ok u) y = subst (λ (b : Option Pieces). ClosesAfter b marker n (Root k) o.scope j (Ok u) y) h.none d in
    let behind = wrote_in_place n k h.front i j o.scope (canon (variant_of i.codec) s v) h.opened w y c.ok c.place c.same in
    let all = wrote_then x h.front y (extension_bit marker false) (kept_index (variant_of h.front.codec) n k ▹ canon (variant_of i.codec) s v) h.marked behind in
    let same : StateAppends x (extension_bit marker false ▹ (kept_index variant n k ▹ canon variant s v)) y =
    subst (λ (b : Codec). StateAppends x (extension_bit marker false ▹ (kept_index (variant_of b) n k ▹ canon variant s v)) y) h.marked.same
    (subst (λ (b : Codec). StateAppends x (extension_bit marker false ▹ (kept_index (variant_of h.front.codec) n k ▹ canon (variant_of b) s v)) y) (h.opened.same ∙ h.marked.same) all) in
    wrote_same x y (extension_bit marker false ▹ (kept_index variant n k ▹ canon variant s v)) (canon variant (choice_schema ps marker qs) (alternative root k v))
    (placed_root variant ps marker qs k s v (kept_index variant n k) (canon variant s v) (λ q. index_placed variant n k q (index_below ps k s a) few) a (λ q l. refl)) same
closes_in_place x i j y o ps marker qs k s v (Err e) few h a w d =
    let n = length (tags_of ps) in
    let c : FillsIndexOrNot n k o.scope j (Err e) y = subst (λ (b : Option Pieces). ClosesAfter b marker n (Root k) o.scope j (Err e) y) h.none d in
    absurd (room_left n k h.front i j o.scope (canon (variant_of i.codec) s v) h.opened w c.short)

-- where an alternative of one of the two lists stands
abbrev placed_at : Side → ℕ → Place
placed_at root k = Root k
placed_at added k = Added k

-- where it is an added one there is an extension marker
abbrev IsMarked : Side → Bool → Type 0
IsMarked root marker = Unit {0}
IsMarked added marker = marker ≡ true

-- what was written without a place is the alternative, from each position within an octet
pub contents : (x i j : WriterState) (o : OutsideChoice) (s : Schema) (v : Value) → OpensUnplaced x o i → Presents i s v j → (q : ℕ) → q < 8 → view j q ≡ canon (variant_of x.codec) s v q
contents x i j o s v h w q l =
    let u : Presents (record x { pieces = unplaced; scope = empty_scope true }) s v j = subst (λ (z : WriterState). Presents z s v j) h.same w in
    u.appended.written q (λ e. absurd (let t : false ≡ true = e in cc)) ∙ from_start (canon (variant_of x.codec) s v) q l

-- X.691 23.5 to 23.8: put after the index it is the choice
placed_form : (a : Variant) (ps : Parts) (marker : Bool) (qs : Parts) (d : Side) (k : ℕ) (s : Schema) (v : Value) (value : Writer) → IsMarked d marker → alternative_in (choice_schema ps marker qs) d k ≡ Some s
    → ((q : ℕ) → q < 8 → value q ≡ canon a s v q) → (p : ℕ) → placed_alternative a marker (length (tags_of ps)) (placed_at d k) value p ≡ canon a (choice_schema ps marker qs) (alternative d k v) p
placed_form a ps marker qs root k s v value m h e p = placed_root a ps marker qs k s v (constrained_whole a (length (tags_of ps)) k) value (λ q. refl) h e p
placed_form a ps marker qs added k s v value m h e p =
    ap₂ (λ (b : Bool) (o : Option Bits). (extension_bit b true ▹ (small a k ▹ open_bits a o)) p) (sym m) (e 0 (omega arith) ∙ sym (chosen_at a qs k s v h 0)) ∙ added_form a ps marker qs k v p

-- an alternative that there is has its place
among : (ps : Parts) (marker : Bool) (qs : Parts) (d : Side) (k : ℕ) (s : Schema) → alternative_in (choice_schema ps marker qs) d k ≡ Some s → is_among (length (tags_of ps)) (placed_at d k) ≡ true
among ps marker qs root k s h = lt-ltb k (length (tags_of ps)) (index_below ps k s h)
among ps marker qs added k s h = refl

-- a choice without room for its index
closes_floating : (x i j y : WriterState) (o : OutsideChoice) (ps : Parts) (marker : Bool) (qs : Parts) (d : Side) (k : ℕ) (s : Schema) (v : Value) (result : Result (Unit {0}) EncodeError) → IsMarked d marker → OpensUnplaced x o i
    → alternative_in (choice_schema ps marker qs) d k ≡ Some s → Presents i s v j → ClosesAfter o.before marker (length (tags_of ps)) (placed_at d k) o.scope j result y
    → Written encoder_rules (choice_schema ps marker qs) (alternative d k v) x result y
closes_floating x i j y o ps marker qs d k s v result m h a w c = go result puts
  where
    n : ℕ
    n = length (tags_of ps)

    place : Place
    place = placed_at d k

    same : j.codec ≡ x.codec
    same = w.same ∙ ap (λ (z : WriterState). z.codec) h.same

    back : restored j x.pieces x.scope ≡ x
    back = ap₂ (λ (f : Bool) (b : Codec). record { pieces = x.pieces; failed = f; codec = b; scope = x.scope }) (w.left ∙ sym h.begun) same

    puts : Puts IsMemory (placed_alternative (variant_of x.codec) marker n place (view j)) x result y
    puts = subst (λ (b : Codec). Puts IsMemory (placed_alternative (variant_of b) marker n place (view j)) x result y) same
        (subst (λ (z : WriterState). Puts IsMemory (placed_alternative (variant_of j.codec) marker n place (view j)) z result y) back
        (subst (λ (b : Bool). PutsWhere b (placed_alternative (variant_of j.codec) marker n place (view j)) (restored j x.pieces x.scope) result y) (among ps marker qs d k s a)
        (subst (λ (q : OutsideChoice). ClosesAfter q.before marker n place q.scope j result y) h.waits c)))

    go : (r : Result (Unit {0}) EncodeError) → Puts IsMemory (placed_alternative (variant_of x.codec) marker n place (view j)) x r y → Written encoder_rules (choice_schema ps marker qs) (alternative d k v) x r y
    go (Ok u) q =
        wrote_same x y (placed_alternative (variant_of x.codec) marker n place (view j)) (canon (variant_of x.codec) (choice_schema ps marker qs) (alternative d k v))
        (placed_form (variant_of x.codec) ps marker qs d k s v (view j) m a (contents x i j o s v h w)) q.ok
    go (Err e) q = inl q.err

same_index : {found : Option ℕ} {i k : ℕ} → found ≡ Some i → found ≡ Some k → i ≡ k
same_index e d = cc

not_found : {found : Option ℕ} {k : ℕ} → found ≡ None → found ≡ Some k → ⊥
not_found n e = absurd cc

-- a tag goes by one alternative
same_place : (t : Schemas.Tag) (vs : List VariantShape) (xs : Option (List VariantShape)) (d : Side) (k : ℕ) (p : Place) → StandsAt t vs xs (Some p) → place_of t (variants_on d vs xs) ≡ Some k → p ≡ placed_at d k
same_place t vs xs root k (Root i) h e = ap Root (same_index h.0 e)
same_place t vs xs root k (Added i) h e = absurd (not_found h.0 e)
same_place t vs xs added k (Root i) h e = absurd (not_found h.1 e)
same_place t vs xs added k (Added i) h e = ap Added (same_index h.1 e)

-- a tag by which none goes
pub none_found : (t : Schemas.Tag) (vs : List VariantShape) (xs : Option (List VariantShape)) (d : Side) (k : ℕ) → StandsAt t vs xs None → place_of t (variants_on d vs xs) ≡ Some k → ⊥
none_found t vs xs root k h e = not_found h.0 e
none_found t vs xs added k h e = not_found h.1 e

pub some_found : (t : Schemas.Tag) (vs : List VariantShape) (xs : Option (List VariantShape)) (p : Place) → StandsAt t vs xs (Some p) → place_of t vs ≡ None → place_of t (variants_after xs) ≡ None → ⊥
some_found t vs xs (Root i) h e f = not_found e h.0
some_found t vs xs (Added i) h e f = not_found f h.1

-- where the alternative that a tag goes by is an added one the type has a marker
marked_at : (t : Schemas.Tag) (vs : List VariantShape) (xs : Option (List VariantShape)) (d : Side) (k : ℕ) → place_of t (variants_on d vs xs) ≡ Some k → IsMarked d (is_extensible xs)
marked_at t vs xs root k f = tt
marked_at t vs None added k f = absurd (let e : None ≡ Some k = f in cc)
marked_at t vs (Some ws) added k f = refl

-- and it states an added one
added_there : (t : Schemas.Tag) (xs : Option (List VariantShape)) (qs : Parts) (k : ℕ) → variants_after xs ≡ variants_of qs → place_of t (variants_after xs) ≡ Some k → addeds_of (after_marker (is_extensible xs) (length (tags_of qs))) ≡ 0 → ⊥
added_there t None qs k e f z = absurd (let g : None ≡ Some k = f in cc)
added_there t (Some []) qs k e f z = absurd (let g : None ≡ Some k = f in cc)
added_there t (Some (w ∷ ws)) no_parts k e f z = absurd cc
added_there t (Some (w ∷ ws)) (part u p s qs) k e f z = absurd (omega (arith, z))

-- room is kept for the index of one of so many
kept_few : (n : ℕ) (behind : Option ℕ) → keeps_room n behind ≡ true → (n ≤ 65536) × (addeds_of behind ≡ 0)
kept_few n behind e = go (leb n 65536) refl e
  where
    go : (b : Bool) → leb n 65536 ≡ b → (b && (addeds_of behind == 0)) ≡ true → (n ≤ 65536) × (addeds_of behind ≡ 0)
    go true q h = (leb-true n 65536 q, eqb-true (addeds_of behind) 0 h)
    go false q h = absurd (let z : false ≡ true = h in cc)

-- a marker is there where what is after it is counted
marker_counted : (marker : Bool) (n : ℕ) → is_some (after_marker marker n) ≡ marker
marker_counted false n = refl
marker_counted true n = refl

-- a type has a marker where it states a list after it
pub marker_stated : (xs : Option (List VariantShape)) → is_some xs ≡ is_extensible xs
marker_stated None = refl
marker_stated (Some vs) = refl

closes_at : (xs : Option (List VariantShape)) (qs : Parts) (d : Side) (t : Schemas.Tag) (vs : List VariantShape) (x i j y : WriterState) (o : OutsideChoice) (ps : Parts) (k : ℕ) (s : Schema) (v : Value)
    (result : Result (Unit {0}) EncodeError) → variants_after xs ≡ variants_of qs → place_of t (variants_on d vs xs) ≡ Some k → OpensChoice (choice_schema ps (is_extensible xs) qs) x o i
    → alternative_in (choice_schema ps (is_extensible xs) qs) d k ≡ Some s → Presents i s v j → ClosesAfter o.before (is_extensible xs) (length (tags_of ps)) (placed_at d k) o.scope j result y
    → Written encoder_rules (choice_schema ps (is_extensible xs) qs) (alternative d k v) x result y
closes_at xs qs d t vs x i j y o ps k s v result e f h a w c =
    go (keeps_room n behind) d refl f (subst (λ (b : Bool). OpensWhere (keeps_room n behind) b n x o i) (marker_counted (is_extensible xs) (length (tags_of qs))) h) a c
  where
    n : ℕ
    n = length (tags_of ps)

    behind : Option ℕ
    behind = after_marker (is_extensible xs) (length (tags_of qs))

    go : (kept : Bool) (z : Side) → keeps_room n behind ≡ kept → place_of t (variants_on z vs xs) ≡ Some k → OpensWhere kept (is_extensible xs) n x o i → alternative_in (choice_schema ps (is_extensible xs) qs) z k ≡ Some s
        → ClosesAfter o.before (is_extensible xs) n (placed_at z k) o.scope j result y → Written encoder_rules (choice_schema ps (is_extensible xs) qs) (alternative z k v) x result y
    go false z q f h a c = closes_floating x i j y o ps (is_extensible xs) qs z k s v result (marked_at t vs xs z k f) h a w c
    go true root q f h a c = closes_in_place x i j y o ps (is_extensible xs) qs k s v result (kept_few n behind q).0 h a w c
    go true added q f h a c = absurd (added_there t xs qs k e f (kept_few n behind q).1)

-- a choice in which the alternative was presented that goes by a tag
pub closes_choice : (xs : Option (List VariantShape)) (vs : List VariantShape) (t : Schemas.Tag) (x i j m y : WriterState) (o : OutsideChoice) (ps qs : Parts) (marker : Bool) (count : ℕ) (p : Place) (d : Side) (k : ℕ) (s : Schema) (v : Value)
    (result : Result (Unit {0}) EncodeError) → marker ≡ is_extensible xs → count ≡ length (tags_of ps) → variants_after xs ≡ variants_of qs → StandsAt t vs xs (Some p) → m ≡ j → ClosesChoiceOf marker count p o m result y
    → OpensChoice (choice_schema ps (is_extensible xs) qs) x o i → place_of t (variants_on d vs xs) ≡ Some k → alternative_in (choice_schema ps (is_extensible xs) qs) d k ≡ Some s → Presents i s v j
    → Written encoder_rules (choice_schema ps (is_extensible xs) qs) (alternative d k v) x result y
closes_choice xs vs t x i j m y o ps qs marker count p d k s v result l e b h q c u f a w =
    closes_at xs qs d t vs x i j y o ps k s v result b f u a w
    (subst (λ (z : Bool). ClosesAfter o.before z (length (tags_of ps)) (placed_at d k) o.scope j result y) l
    (subst (λ (n : ℕ). ClosesAfter o.before marker n (placed_at d k) o.scope j result y) e
    (subst (λ (r : Place). ClosesAfter o.before marker count r o.scope j result y) (same_place t vs xs d k p h f)
    (subst (λ (z : WriterState). ClosesAfter o.before marker count p o.scope z result y) q c))))

-- a call that refuses what has no turn, or writes, leaves an encoder that it refused failed, and the variant stays
puts_well : (b : Bool) (w : Writer) (x y : WriterState) (result : Result (Unit {0}) EncodeError) → PutsWhere b w x result y → OnErr result (y.failed ≡ true) × (y.codec ≡ x.codec)
puts_well true w x y result c = (c.fails, c.kept)
puts_well false w x y (Ok u) c = (tt, c.kept)
puts_well false w x y (Err e) c = (c.fails, c.kept)

-- and so does a call that closes a choice
pub closes_well : (before : Option Pieces) (marker : Bool) (n : ℕ) (p : Place) (o : Frame) (x y : WriterState) (result : Result (Unit {0}) EncodeError) → ClosesAfter before marker n p o x result y → OnErr result (y.failed ≡ true) × (y.codec ≡ x.codec)
closes_well None marker n (Root i) o x y result c = (c.fails, c.kept)
closes_well None marker n (Added i) o x y (Ok u) c = (tt, c.kept)
closes_well None marker n (Added i) o x y (Err e) c = (c.fails, c.kept)
closes_well (Some before) marker n p o x y result c = puts_well (is_among n p) (placed_alternative (variant_of x.codec) marker n p (view x)) (restored x before o) y result c
