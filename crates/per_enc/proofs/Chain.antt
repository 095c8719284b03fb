-- What components write, one after another, in the scope of a record (ITU-T X.691, 19.2 to 19.5).
use Rattle.std.proofs.Common.{◌≡◌, refl, sym, ap, ap₂, ◌∙◌, subst, ℕ, zero, suc, Bool, false, true, inl, inr, List, [], ◌∷◌, ◌++◌, length, replicate, Option, Some, None, arith, append-nil, append_assoc, length-append, ◌+◌, ◌%◌}
use Rattle.std.proofs.lemmas.List.{length-replicate}
use Rattle.rasn_types.specs.Bits.{Bits}
use Rattle.rasn_types.specs.Variants.{variant_of, aligned}
use Rattle.rasn_types.specs.Values.{Value}
use Rattle.rasn_types.specs.declared.types.Codec.{Codec}
use Rattle.rasn_schema.specs.Structures.{has_bit, presence_bits}
use Rattle.rasn_schema.specs.Schemas.{Schema, Parts, no_parts, part, Presence, required, optional, group, default}
use Rattle.rasn_traits.specs.Presences.{presence_bit}
use Rattle.rasn_traits.specs.Scopes.{PresentsPart, presents_required, presents_there, presents_left_out, PresentsParts, presents_end, presents_next, refuses_required, refuses_there, refuses_bit, RefusesParts, refuses_here, refuses_after}
use Rattle.per_core.specs.Canon.{canon, members, flag, flagged, if_shown, flags_of, bodies_of, shown}
use Rattle.per_core.specs.Writers.{Writer, ◌▹◌, join, go_on, after, pad}
use Rattle.per_pieces.specs.Pieces.{Appends, Piece, bit, to_octet, MayBegin, bits_of, bit_count, plain, set_bit, placed_bits, writer_of}
use Rattle.per_pieces.proofs.Placed.{bits_of_append, bits_of_plain, plain_append, set_seam, settle_append, settle_plain, settled_then}
use Rattle.per_core.specs.declared.encode_error.EncodeError.{EncodeError}
use Rattle.per_core.specs.WritingFaults.{HasPart, part_here, part_after}
use Rattle.per_write.specs.Faults.{RefusesValue}
use Rattle.per_write.specs.Presences.{Marks, IsUnmarked}
use Rattle.per_write.specs.Rules.{encoder_rules}
use Rattle.per_write.specs.WriterState.{WriterState, Presents}
use Rattle.per_pieces.proofs.Writing.{none_after, then_assoc, then_nothing}
use Rattle.per_write.proofs.Gathering.{after_at}

-- X.691 19.2: the presence bit of a component
pub there_shown : (q : Presence) (v : Value) → presence_bit q (Some v) ≡ Some true → (shown q (Some v) ≡ Some true) × (flag q true ≡ true ∷ []) × (has_bit q ≡ 1)
unfolding shown
there_shown required v e = absurd cc
there_shown optional v e = (refl, refl, refl)
there_shown group v e = (refl, refl, refl)
there_shown (default d) v e = (e, refl, refl)

pub out_shown : (q : Presence) (r : Option Value) → presence_bit q r ≡ Some false → (shown q r ≡ Some false) × (flag q false ≡ false ∷ []) × (has_bit q ≡ 1)
unfolding shown
out_shown required r e = absurd cc
out_shown optional None e = (refl, refl, refl)
out_shown optional (Some v) e = absurd cc
out_shown group None e = (refl, refl, refl)
out_shown group (Some v) e = absurd cc
out_shown (default d) None e = absurd cc
out_shown (default d) (Some v) e = (e, refl, refl)

some_bit : (q : Presence) (r : Option Value) (b : Bool) → presence_bit q r ≡ Some b → has_bit q ≡ 1
some_bit q r true e = bit_of q e
  where
    bit_of : (q : Presence) → presence_bit q r ≡ Some true → has_bit q ≡ 1
    bit_of required e = absurd cc
    bit_of optional e = refl
    bit_of group e = refl
    bit_of (default d) e = refl
some_bit q r false e = (out_shown q r e).2

-- the position after what was written from another on
abbrev pub end_of : WriterState → ℕ → ℕ
end_of x p = after p (placed_bits x.pieces.list p)

-- what was written last, as it was to be written
pub appended_at : (x y : WriterState) (f : Writer) (h : Appends x.pieces f y.pieces) (p : ℕ) → MayBegin x.pieces p → f (end_of x p) ≡ Some (placed_bits h.behind (end_of x p))
appended_at x y f h p b = after_at p x.pieces.list h.behind f (ap (λ (ps : List Piece). writer_of ps p) (sym h.list) ∙ h.written p b)

-- the first of two writers, after some pieces
pub moved : (p : ℕ) (b c : List Piece) (w g : Writer) → w (after p (placed_bits b p)) ≡ Some (placed_bits c (after p (placed_bits b p))) → (writer_of b ▹ (w ▹ g)) p ≡ (writer_of (b ++ c) ▹ g) p
moved p b c w g e = then_assoc (writer_of b) w g p ∙ ap (λ o. go_on o g p) (ap (join (placed_bits b p)) e ∙ sym (settled_then b c p))

spread : (a : List Piece) (u : Bits) (r : List Piece) (p : ℕ) → placed_bits (a ++ (plain u ++ r)) p ≡ placed_bits a p ++ (u ++ placed_bits r (after (after p (placed_bits a p)) u))
spread a u r p =
    let q = after p (placed_bits a p) in
    settle_append a (plain u ++ r) p ∙ ap (λ (bs : Bits). placed_bits a p ++ bs) (settle_append (plain u) r q ∙ ap (λ (bs : Bits). bs ++ placed_bits r (after q bs)) (settle_plain u q))

-- other bits, as many, move nothing
pub bits_alike : (a : List Piece) (u v : Bits) (r : List Piece) (p : ℕ) → length u ≡ length v → after p (placed_bits (a ++ (plain u ++ r)) p) ≡ after p (placed_bits (a ++ (plain v ++ r)) p)
bits_alike a u v r p e =
    let q = after p (placed_bits a p) in
    let c = placed_bits r (after q v) in
    let same : after q u ≡ after q v = ap (λ (n : ℕ). (q + n) % 8) e in
    ap (after p) (spread a u r p ∙ ap (λ (n : ℕ). placed_bits a p ++ (u ++ placed_bits r n)) same)
    ∙ ap (λ (n : ℕ). (p + n) % 8) (length-append (placed_bits a p) (u ++ c) ∙ ap (λ (n : ℕ). length (placed_bits a p) + n) (length-append u c ∙ ap (λ (n : ℕ). n + length c) e ∙ sym (length-append v c)) ∙ sym (length-append (placed_bits a p) (v ++ c)))
    ∙ sym (ap (after p) (spread a v r p))

-- nor does a bit that is set
settle_set : (ps : List Piece) (i : ℕ) (b : Bool) (p : ℕ) → length (placed_bits (set_bit ps i b) p) ≡ length (placed_bits ps p)
settle_set [] i b p = refl
settle_set (to_octet ∷ ps) i b p =
    let z = replicate (pad aligned p) false in
    length-append z (placed_bits (set_bit ps i b) 0) ∙ ap (λ (n : ℕ). length z + n) (settle_set ps i b 0) ∙ sym (length-append z (placed_bits ps 0))
settle_set (bit c ∷ ps) zero b p = refl
settle_set (bit c ∷ ps) (suc i) b p = ap suc (settle_set ps i b (p + 1))

pub count_append : (xs ys : List Piece) → bit_count (xs ++ ys) ≡ bit_count xs + bit_count ys
count_append xs ys = ap length (bits_of_append xs ys) ∙ length-append (bits_of xs) (bits_of ys)

pub count_plain : (bs : Bits) → bit_count (plain bs) ≡ length bs
count_plain bs = ap length (bits_of_plain bs)

-- Where the presence bits of components are still to be given: after some pieces so many zeros, and others after them.
pub record Ready (x : WriterState) (codec : Codec) (a b : List Piece) (n : ℕ) : Type 0 where
  pub unfailed : x.failed ≡ false
  pub same : x.codec ≡ codec
  pub list : x.pieces.list ≡ a ++ (plain (replicate n false) ++ b)
  pub place : x.scope.presences.place ≡ bit_count a
  pub left : x.scope.presences.left ≡ n

ready_for : {x : WriterState} {codec : Codec} {a b : List Piece} {n m : ℕ} → n ≡ m → Ready x codec a b n → Ready x codec a b m
ready_for {x} {codec} {a} {b} e h = subst (λ i. Ready x codec a b i) e h

-- one component: its presence bit, where it has one, is given, and its value is at the end
record Step (x m : WriterState) (codec : Codec) (q : Presence) (s : Schema) (r : Option Value) (a b : List Piece) (n : ℕ) : Type 0 where
  flags : Bits
  body : List Piece
  is_flagged : (p : ℕ) → flagged q (shown q r) p ≡ Some flags
  count : length flags ≡ has_bit q
  is_body : (p : ℕ) → MayBegin x.pieces p → if_shown (shown q r) r (canon (variant_of codec) s) (end_of x p) ≡ Some (placed_bits body (end_of x p))
  steady : m.pieces.placed ≡ x.pieces.placed
  ready : Ready m codec (a ++ plain flags) (b ++ body) n

-- the next bit is given
given : {x y : WriterState} {codec : Codec} {a b : List Piece} {n : ℕ} (there : Bool) → Ready x codec a b (suc n) → Marks x there y → Ready y codec (a ++ bit there ∷ []) b n
given {x} {y} {codec} {a} {b} {n} there h m = record {
  unfailed = ap (λ z. z.failed) m.same ∙ h.unfailed;
  same = ap (λ z. z.codec) m.same ∙ h.same;
  list = ap (λ z. z.pieces.list) m.same ∙ ap₂ (λ ps i. set_bit ps i there) h.list h.place
      ∙ set_seam a (plain (replicate n false) ++ b) false there ∙ sym (append_assoc a (bit there ∷ []) (plain (replicate n false) ++ b));
  place = ap (λ z. z.scope.presences.place) m.same ∙ omega (arith, h.place, count_append a (bit there ∷ []));
  left = let l = m.some in let k = h.left in omega arith;
}

-- it moves nothing
same_place : {x y : WriterState} {there : Bool} → Marks x there y → (p : ℕ) → end_of y p ≡ end_of x p
same_place {x} {y} {there} m p = ap (λ z. after p (placed_bits z.pieces.list p)) m.same ∙ ap (λ (n : ℕ). (p + n) % 8) (settle_set x.pieces.list x.scope.presences.place there p)

-- a value that is refused has no encoding
none_at : {e : EncodeError} {x : WriterState} {codec : Codec} {s : Schema} {v : Value} → x.codec ≡ codec → RefusesValue e x s v → x.failed ≡ false → (p : ℕ) → canon (variant_of codec) s v p ≡ None
none_at {s = s} {v = v} e h f p = ap (λ c. canon (variant_of c) s v p) (sym e) ∙ h.none f p

-- a value is put after all that was there
record PutAfter (x y : WriterState) (codec : Codec) (s : Schema) (v : Value) (a b : List Piece) (n : ℕ) : Type 0 where
  body : List Piece
  is_body : (p : ℕ) → MayBegin x.pieces p → canon (variant_of codec) s v (end_of x p) ≡ Some (placed_bits body (end_of x p))
  steady : y.pieces.placed ≡ x.pieces.placed
  ready : Ready y codec a (b ++ body) n

put_after : {x y : WriterState} {codec : Codec} {a b : List Piece} {n : ℕ} (s : Schema) (v : Value) → Ready x codec a b n → Presents x s v y → PutAfter x y codec s v a b n
put_after {x} {y} {codec} {a} {b} {n} s v h w =
    let c = w.appended.behind in
    record {
      body = c;
      is_body = λ p u. ap (λ z. canon (variant_of z) s v (end_of x p)) (sym h.same) ∙ appended_at x y (canon (variant_of x.codec) s v) w.appended p u;
      steady = w.appended.place;
      ready = record {
        unfailed = w.left;
        same = w.same ∙ h.same;
        list = w.appended.list ∙ ap (λ ps. ps ++ c) h.list ∙ append_assoc a (plain (replicate n false) ++ b) c ∙ ap (λ ps. a ++ ps) (append_assoc (plain (replicate n false)) b c);
        place = ap (λ z. z.presences.place) w.beside ∙ h.place;
        left = ap (λ z. z.presences.left) w.beside ∙ h.left;
      };
    }

step : {x m : WriterState} {codec : Codec} {q : Presence} {s : Schema} {r : Option Value} {a b : List Piece} {n : ℕ} → Ready x codec a b (has_bit q + n) → PresentsPart encoder_rules q s x r m → Step x m codec q s r a b n
unfolding shown
step {x} {m} {codec} {q} {s} {r} {a} {b} {n} h (presents_required {v = v} w) =
    let k = put_after s v (ready_for (let e : 0 + n ≡ n = omega arith in e) h) w in
    record {
      flags = [];
      body = k.body;
      is_flagged = λ p. refl;
      count = refl;
      is_body = k.is_body;
      steady = k.steady;
      ready = subst (λ ps. Ready m codec ps (b ++ k.body) n) (sym (append-nil a)) k.ready;
    }
step {x} {m} {codec} {q} {s} {r} {a} {b} {n} h (presents_there {m = y} {v = v} e t w) =
    let i = there_shown q v e in
    let k = put_after s v (given true (ready_for (let l = i.2 in let d : has_bit q + n ≡ suc n = omega arith in d) h) t) w in
    let same : y.pieces.placed ≡ x.pieces.placed = ap (λ z. z.pieces.placed) t.same in
    record {
      flags = true ∷ [];
      body = k.body;
      is_flagged = λ p. rw (i.0, i.1) refl;
      count = sym i.2;
      is_body = λ p u. rw i.0 (subst (λ (o : ℕ). canon (variant_of codec) s v o ≡ Some (placed_bits k.body o)) (same_place t p) (k.is_body p (λ f. u (sym same ∙ f))));
      steady = k.steady ∙ same;
      ready = k.ready;
    }
step {x} {m} {codec} {q} {s} {r} {a} {b} {n} h (presents_left_out e t) =
    let i = out_shown q r e in
    record {
      flags = false ∷ [];
      body = [];
      is_flagged = λ p. rw (i.0, i.1) refl;
      count = sym i.2;
      is_body = λ p u. rw i.0 refl;
      steady = ap (λ z. z.pieces.placed) t.same;
      ready = subst (λ ps. Ready m codec (a ++ bit false ∷ []) ps n) (sym (append-nil b)) (given false (ready_for (let l = i.2 in let d : has_bit q + n ≡ suc n = omega arith in d) h) t);
    }

-- all components: their presence bits are given, and their values are after one another
pub record Laid (x y : WriterState) (codec : Codec) (ps : Parts) (rs : List (Option Value)) (a b : List Piece) (k : ℕ) : Type 0 where
  pub flags : Bits
  pub are_flags : (p : ℕ) → flags_of (members (variant_of codec) ps) rs p ≡ Some flags
  pub count : length flags ≡ presence_bits ps
  pub behind : List Piece
  pub list : y.pieces.list ≡ a ++ behind
  pub steady : y.pieces.placed ≡ x.pieces.placed
  pub written : (p : ℕ) → MayBegin x.pieces p → writer_of y.pieces.list p ≡ (writer_of (a ++ (plain (flags ++ replicate k false) ++ b)) ▹ bodies_of (members (variant_of codec) ps) rs) p
  pub left : y.scope.presences.left ≡ k
  pub unfailed : y.failed ≡ false
  pub same : y.codec ≡ codec

-- pieces, of which some are cut in two
regrouped : (a : List Piece) (f g z : Bits) (b c : List Piece) → (a ++ (plain ((f ++ g) ++ z) ++ b)) ++ c ≡ (a ++ plain f) ++ (plain (g ++ z) ++ (b ++ c))
regrouped a f g z b c = append_assoc a (plain ((f ++ g) ++ z) ++ b) c
    ∙ ap (λ (ps : List Piece). a ++ ps) (append_assoc (plain ((f ++ g) ++ z)) b c ∙ ap (λ (ps : List Piece). ps ++ (b ++ c)) (ap plain (append_assoc f g z) ∙ plain_append f (g ++ z)) ∙ append_assoc (plain f) (plain (g ++ z)) (b ++ c))
    ∙ sym (append_assoc a (plain f) (plain (g ++ z) ++ (b ++ c)))

ready_length : {x : WriterState} {codec : Codec} {a b : List Piece} {n : ℕ} → Ready x codec a b n → bit_count x.pieces.list ≡ bit_count a + (n + bit_count b)
ready_length {a = a} {b = b} {n = n} h = ap bit_count h.list ∙ count_append a (plain (replicate n false) ++ b)
    ∙ ap (λ (i : ℕ). bit_count a + i) (count_append (plain (replicate n false)) b ∙ ap (λ (i : ℕ). i + bit_count b) (count_plain (replicate n false) ∙ length-replicate n false))

pub laid : (ps : Parts) (x y : WriterState) (codec : Codec) (rs : List (Option Value)) (a b : List Piece) (k : ℕ) → Ready x codec a b (presence_bits ps + k) → PresentsParts encoder_rules ps x rs y → Laid x y codec ps rs a b k
unfolding canon shown
laid no_parts x y codec rs a b k h presents_end =
    let r = ready_for (let e : 0 + k ≡ k = omega arith in e) h in
    record {
      flags = [];
      are_flags = λ p. refl;
      count = refl;
      behind = plain (replicate k false) ++ b;
      list = r.list;
      steady = refl;
      written = λ p u. ap (λ (qs : List Piece). writer_of qs p) r.list ∙ sym (then_nothing (writer_of (a ++ (plain (replicate k false) ++ b))) p);
      left = r.left;
      unfailed = r.unfailed;
      same = r.same;
    }
laid (part t q s ps) x y codec (r ∷ rs) a b k h (presents_next {m = m} c d) =
    let i = step (ready_for (let e : has_bit q + presence_bits ps + k ≡ has_bit q + (presence_bits ps + k) = omega arith in e) h) c in
    let l = laid ps m y codec rs (a ++ plain i.flags) (b ++ i.body) k i.ready d in
    let z = replicate k false in
    let bodies = bodies_of (members (variant_of codec) ps) rs in
    let one = if_shown (shown q r) r (canon (variant_of codec) s) in
    let total = presence_bits (part t q s ps) + k in
    let all = a ++ (plain ((i.flags ++ l.flags) ++ z) ++ b) in
    let as_long : length ((i.flags ++ l.flags) ++ z) ≡ length (replicate total false) =
    omega (arith, length-append (i.flags ++ l.flags) z, length-append i.flags l.flags, length-replicate k false, length-replicate total false, i.count, l.count) in
    let same_end : (p : ℕ) → after p (placed_bits all p) ≡ end_of x p =
    λ p. bits_alike a ((i.flags ++ l.flags) ++ z) (replicate total false) b p as_long ∙ ap (λ (qs : List Piece). after p (placed_bits qs p)) (sym h.list) in
    record {
      flags = i.flags ++ l.flags;
      are_flags = λ p. ap (λ o. go_on o (flags_of (members (variant_of codec) ps) rs) p) (i.is_flagged p) ∙ ap (join i.flags) (l.are_flags (after p i.flags));
      count = length-append i.flags l.flags ∙ ap₂ (λ (u v : ℕ). u + v) i.count l.count;
      behind = plain i.flags ++ l.behind;
      list = l.list ∙ append_assoc a (plain i.flags) l.behind;
      steady = l.steady ∙ i.steady;
      written = λ p u. l.written p (λ f. u (sym i.steady ∙ f)) ∙ ap (λ (qs : List Piece). (writer_of qs ▹ bodies) p) (sym (regrouped a i.flags l.flags z b i.body))
          ∙ sym (moved p all i.body one bodies (subst (λ (o : ℕ). one o ≡ Some (placed_bits i.body o)) (sym (same_end p)) (i.is_body p u)));
      left = l.left;
      unfailed = l.unfailed;
      same = l.same;
    }
laid (part t q s ps) x y codec [] a b k h c = elim c [ ]

-- the additions are left alone
part_keeps : {x m : WriterState} {q : Presence} {s : Schema} {r : Option Value} → PresentsPart encoder_rules q s x r m → m.scope.additions ≡ x.scope.additions
part_keeps (presents_required w) = ap (λ z. z.additions) w.beside
part_keeps (presents_there e t w) = ap (λ z. z.additions) w.beside ∙ ap (λ z. z.scope.additions) t.same
part_keeps (presents_left_out e t) = ap (λ z. z.scope.additions) t.same

pub parts_keep : (ps : Parts) (x y : WriterState) (rs : List (Option Value)) → PresentsParts encoder_rules ps x rs y → y.scope.additions ≡ x.scope.additions
parts_keep no_parts x y rs presents_end = refl
parts_keep (part t q s ps) x y (r ∷ rs) (presents_next {m = m} c d) = parts_keep ps m y rs d ∙ part_keeps c
parts_keep (part t q s ps) x y [] c = elim c [ ]

-- a component that is refused, and what the encoder was before it; those with it have no encoding
pub record RefusedPart (e : EncodeError) (codec : Codec) (ps : Parts) (rs : List (Option Value)) : Type 0 where
  pub s : Schema
  pub v : Value
  pub m : WriterState
  pub has : HasPart s v ps rs
  pub refused : RefusesValue e m s v
  pub unfailed : m.failed ≡ false
  pub same : m.codec ≡ codec
  pub none : (p : ℕ) → bodies_of (members (variant_of codec) ps) rs p ≡ None

-- a presence bit that is still to be given isn't refused
not_refused : {e : EncodeError} {x : WriterState} {codec : Codec} {a b : List Piece} {n : ℕ} → Ready x codec a b (suc n) → IsUnmarked e x → ⊥
not_refused h (inl (k, inl z)) = let l = h.left in absurd (omega arith)
not_refused h (inl (k, inr z)) = let l = ready_length h in let p = h.place in absurd (omega arith)
not_refused h (inr (k, f)) = let g = h.unfailed in absurd cc

pub refused_part : (e : EncodeError) (ps : Parts) (x : WriterState) (codec : Codec) (rs : List (Option Value)) (a b : List Piece) (k : ℕ) → Ready x codec a b (presence_bits ps + k) → RefusesParts encoder_rules e ps x rs → RefusedPart e codec ps rs
unfolding canon shown
refused_part e (part t q s ps) x codec (r ∷ rs) a b k h (refuses_here (refuses_required {v = v} w)) = record {
  s = s;
  v = v;
  m = x;
  has = part_here refl;
  refused = w;
  unfailed = h.unfailed;
  same = h.same;
  none = λ p. ap (λ o. go_on o (bodies_of (members (variant_of codec) ps) rs) p) (none_at h.same w h.unfailed p);
}
refused_part e (part t q s ps) x codec (r ∷ rs) a b k h (refuses_here (refuses_there {m = m} {v = v} i c w)) =
    let f : m.failed ≡ false = ap (λ z. z.failed) c.same ∙ h.unfailed in
    let d : m.codec ≡ codec = ap (λ z. z.codec) c.same ∙ h.same in
    record {
      s = s;
      v = v;
      m = m;
      has = part_here (there_shown q v i).0;
      refused = w;
      unfailed = f;
      same = d;
      none = λ p. rw (there_shown q v i).0 (ap (λ o. go_on o (bodies_of (members (variant_of codec) ps) rs) p) (none_at d w f p));
    }
refused_part e (part t q s ps) x codec (r ∷ rs) a b k h (refuses_here (refuses_bit {b = there} i u)) =
    let one = some_bit q r there i in
    absurd (not_refused (ready_for (let l : has_bit q + presence_bits ps + k ≡ suc (presence_bits ps + k) = omega arith in l) h) u)
refused_part e (part t q s ps) x codec (r ∷ rs) a b k h (refuses_after {m = m} c w) =
    let i = step (ready_for (let l : has_bit q + presence_bits ps + k ≡ has_bit q + (presence_bits ps + k) = omega arith in l) h) c in
    let d = refused_part e ps m codec rs (a ++ plain i.flags) (b ++ i.body) k i.ready w in
    record {
      s = d.s;
      v = d.v;
      m = d.m;
      has = part_after d.has;
      refused = d.refused;
      unfailed = d.unfailed;
      same = d.same;
      none = λ p. none_after (if_shown (shown q r) r (canon (variant_of codec) s) p) (bodies_of (members (variant_of codec) ps) rs) p d.none;
    }
refused_part e no_parts x codec rs a b k h c = elim c [ ]
refused_part e (part t q s ps) x codec [] a b k h c = elim c [ ]
