-- Bits and the places of marks among them, as pieces.
use Rattle.std.proofs.Common.{◌≡◌, refl, sym, ap, ap₂, ◌∙◌, subst, ℕ, zero, suc, ◌+◌, ◌-◌, ◌≤◌, ◌<◌, Bool, true, false, List, [], ◌∷◌, ◌++◌, length, take, drop, replicate, set, Option, Some, None, arith, append_assoc, length-append, length-drop, get_or, ◌%◌}
use Rattle.std.specs.Prelude.{Result, Ok, Err, OnOk, OnErr, IsOk, ◌==◌}
use Rattle.std.proofs.lemmas.Bool.{eqb-true}
use Rattle.std.proofs.lemmas.List.{take-append-le, drop-append-le, take-append-drop, take_all, drop_all, length-replicate}
use Rattle.std.proofs.Math.Seq.{drop-cons, drop-append_seam, take-append_seam}
use Rattle.rasn_types.specs.Bits.{Bits, to_bits}
use Rattle.rasn_types.specs.Variants.{aligned}
use Rattle.per_core.specs.Writers.{after, just, pad, padding, ◌▹◌}
use Rattle.per_pieces.specs.Pieces.{Piece, bit, to_octet, Pieces, plain, with_bits, with_bit, bits_of, set_bit, placed_bits, writer_of, Appends, Remains}
use Rattle.per_pieces.specs.MarkPositions.{marked, AreInOrder, places_of, is_placed, pieces}
use Rattle.per_pieces.proofs.Placed.{appends_bits, appends_mark, appends_padding, appends_then, bits_of_append, bits_of_plain, plain_append, remains_after, remains_all, remains_last, settle_append, settle_plain, settle_same}
use Rattle.per_pieces.proofs.Writing.{then_assoc}
use Rattle.per_pieces.proofs.Zeros.{to_bits-zeros}

pub ends_after : (k : ℕ) (ms : List ℕ) (n : ℕ) → AreInOrder k ms n → k ≤ n
ends_after k [] n h = h
ends_after k (m ∷ ms) n h = let l = h.0 in let r = ends_after m ms n h.1 in omega arith

pub further : (k : ℕ) (ms : List ℕ) (n m : ℕ) → n ≤ m → AreInOrder k ms n → AreInOrder k ms m
further k [] n m l h = omega arith
further k (i ∷ ms) n m l h = (h.0, further i ms n m l h.1)

-- a place more, after all bits
pub one_further : (k : ℕ) (ms : List ℕ) (n : ℕ) → AreInOrder k ms n → AreInOrder k (ms ++ n ∷ []) n
one_further k [] n h = (h, let e : n ≤ n = omega arith in e)
one_further k (m ∷ ms) n h = (h.0, one_further m ms n h.1)

pub bits_of_marked : (k : ℕ) (ms : List ℕ) (bs : Bits) → bits_of (marked k ms bs) ≡ bs
bits_of_marked k [] bs = bits_of_plain bs
bits_of_marked k (m ∷ ms) bs = bits_of_append (plain (take (m - k) bs)) (to_octet ∷ marked m ms (drop (m - k) bs))
    ∙ ap₂ (λ (xs ys : Bits). xs ++ ys) (bits_of_plain (take (m - k) bs)) (bits_of_marked m ms (drop (m - k) bs)) ∙ take-append-drop (m - k) bs

-- bits more after the last mark
pub marked_bits : (k : ℕ) (ms : List ℕ) (bs cs : Bits) (n : ℕ) → n ≡ k + length bs → AreInOrder k ms n → marked k ms (bs ++ cs) ≡ marked k ms bs ++ plain cs
marked_bits k [] bs cs n e h = plain_append bs cs
marked_bits k (m ∷ ms) bs cs n e h =
    let l : k ≤ m = h.0 in
    let r = ends_after m ms n h.1 in
    let d : m - k ≤ length bs = omega arith in
    let i : n ≡ m + length (drop (m - k) bs) = omega (arith, length-drop (m - k) bs) in
    ap₂ (λ (xs ys : Bits). plain xs ++ to_octet ∷ marked m ms ys) (take-append-le (m - k) bs cs d) (drop-append-le (m - k) bs cs d)
    ∙ ap (λ (ps : List Piece). plain (take (m - k) bs) ++ to_octet ∷ ps) (marked_bits m ms (drop (m - k) bs) cs n i h.1)
    ∙ sym (append_assoc (plain (take (m - k) bs)) (to_octet ∷ marked m ms (drop (m - k) bs)) (plain cs))

-- a mark more after all bits
pub marked_mark : (k : ℕ) (ms : List ℕ) (bs : Bits) (n : ℕ) → n ≡ k + length bs → AreInOrder k ms n → marked k (ms ++ n ∷ []) bs ≡ marked k ms bs ++ to_octet ∷ []
marked_mark k [] bs n e h =
    let d : length bs ≤ n - k = omega arith in
    ap₂ (λ (xs ys : Bits). plain xs ++ to_octet ∷ plain ys) (take_all (n - k) bs d) (drop_all (n - k) bs d)
marked_mark k (m ∷ ms) bs n e h =
    let l : k ≤ m = h.0 in
    let r = ends_after m ms n h.1 in
    let i : n ≡ m + length (drop (m - k) bs) = omega (arith, length-drop (m - k) bs) in
    ap (λ (ps : List Piece). plain (take (m - k) bs) ++ to_octet ∷ ps) (marked_mark m ms (drop (m - k) bs) n i h.1)
    ∙ sym (append_assoc (plain (take (m - k) bs)) (to_octet ∷ marked m ms (drop (m - k) bs)) (to_octet ∷ []))

set_plain : (bs : Bits) (i : ℕ) (b : Bool) → plain (set bs i b) ≡ set_bit (plain bs) i b
set_plain [] i b = refl
set_plain (c ∷ bs) zero b = refl
set_plain (c ∷ bs) (suc i) b = ap (λ (ps : List Piece). bit c ∷ ps) (set_plain bs i b)

-- another bit among marks
pub marked_set : (k : ℕ) (ms : List ℕ) (bs : Bits) (i : ℕ) (b : Bool) → marked k ms (set bs i b) ≡ set_bit (marked k ms bs) i b
marked_set k [] bs i b = set_plain bs i b
marked_set k (m ∷ ms) bs i b = go (m - k) bs i (λ cs j. marked_set m ms cs j b)
  where
    go : (d : ℕ) (cs : Bits) (j : ℕ) → ((es : Bits) (n : ℕ) → marked m ms (set es n b) ≡ set_bit (marked m ms es) n b) → plain (take d (set cs j b)) ++ to_octet ∷ marked m ms (drop d (set cs j b)) ≡ set_bit (plain (take d cs) ++ to_octet ∷ marked m ms (drop d cs)) j b
    go zero cs j h = ap (λ (ps : List Piece). to_octet ∷ ps) (h cs j)
    go (suc d) [] j h = ap (λ (ps : List Piece). to_octet ∷ ps) (h [] j)
    go (suc d) (c ∷ cs) zero h = refl
    go (suc d) (c ∷ cs) (suc j) h = ap (λ (ps : List Piece). bit c ∷ ps) (go d cs j h)

-- the pieces of a struct's fields
pub pieces_bits : (o : Option (List ℕ)) (x y bs : Bits) → AreInOrder 0 (places_of o) (length x) → y ≡ x ++ bs → pieces o y ≡ with_bits (pieces o x) bs
pieces_bits o x y bs h e = ap (λ (cs : Bits). pieces o cs) e ∙ ap (λ (ps : List Piece). record { list = ps; placed = is_placed o }) (marked_bits 0 (places_of o) x bs (length x) (let l : length x ≡ 0 + length x = omega arith in l) h)

pub pieces_set : (o : Option (List ℕ)) (x y : Bits) (i : ℕ) (b : Bool) → y ≡ set x i b → pieces o y ≡ with_bit (pieces o x) i b
pieces_set o x y i b e = ap (λ (cs : Bits). pieces o cs) e ∙ ap (λ (ps : List Piece). record { list = ps; placed = is_placed o }) (marked_set 0 (places_of o) x i b)

-- X.691 11.1: padding, by its mark
pub padded_mark : (x : Pieces) (o : Option (List ℕ)) (ms ns : List ℕ) (bs : Bits) (n : ℕ) → pieces o bs ≡ x → o ≡ Some ms → AreInOrder 0 (places_of o) (length bs) → n ≡ length bs → ns ≡ ms ++ n ∷ [] →
    Appends x (padding aligned) (pieces (Some ns) bs)
padded_mark x o ms ns bs n v e h l d =
    let i : AreInOrder 0 ms (length bs) = subst (λ (q : Option (List ℕ)). AreInOrder 0 (places_of q) (length bs)) e h in
    let w : pieces (Some ms) bs ≡ x = ap (λ (q : Option (List ℕ)). pieces q bs) (sym e) ∙ v in
    subst (λ (y : Pieces). Appends y (padding aligned) (pieces (Some ns) bs)) w
    (appends_mark (pieces (Some ms) bs) (pieces (Some ns) bs)
    (ap (λ (is : List ℕ). pieces (Some is) bs) (d ∙ ap (λ (j : ℕ). ms ++ j ∷ []) l)
    ∙ ap (λ (ps : List Piece). record { list = ps; placed = is_placed (Some ms) }) (marked_mark 0 ms bs (length bs) (let k : length bs ≡ 0 + length bs = omega arith in k) i)))

pub order_mark : {E : Type 0} (o : Option (List ℕ)) (ms ns : List ℕ) (bs : Bits) (n : ℕ) (result : Result (Unit {0}) E) → o ≡ Some ms → AreInOrder 0 (places_of o) (length bs) → n ≡ length bs →
    OnOk result (ns ≡ ms ++ n ∷ []) → OnErr result (ns ≡ ms) → AreInOrder 0 ns (length bs)
order_mark o ms ns bs n (Ok u) e h l d f =
    let i : AreInOrder 0 ms (length bs) = subst (λ (q : Option (List ℕ)). AreInOrder 0 (places_of q) (length bs)) e h in
    subst (λ (is : List ℕ). AreInOrder 0 is (length bs)) (sym (d ∙ ap (λ (j : ℕ). ms ++ j ∷ []) l)) (one_further 0 ms (length bs) i)
order_mark o ms ns bs n (Err g) e h l d f =
    subst (λ (is : List ℕ). AreInOrder 0 is (length bs)) (sym f) (subst (λ (q : Option (List ℕ)). AreInOrder 0 (places_of q) (length bs)) e h)

-- X.691 11.1: padding after bits that begin at position 0
pub padded_start : (x : Pieces) (o : Option (List ℕ)) (bs cs : Bits) (n : ℕ) → pieces o bs ≡ x → o ≡ None → n ≡ length bs → cs ≡ bs ++ to_bits ((8 - n % 8) % 8) 0 → Appends x (padding aligned) (pieces o cs)
padded_start x o bs cs n v e l d =
    let w : x ≡ record { list = plain bs; placed = true } = sym v ∙ ap (λ (q : Option (List ℕ)). pieces q bs) e in
    let z : Bits = replicate ((8 - length bs % 8) % 8) false in
    let f : cs ≡ bs ++ z = d ∙ ap (λ (i : ℕ). bs ++ to_bits ((8 - i % 8) % 8) 0) l ∙ ap (λ (es : Bits). bs ++ es) (to_bits-zeros ((8 - length bs % 8) % 8)) in
    appends_padding x (pieces o cs) bs w
    (ap (λ (q : Option (List ℕ)). pieces q cs) e ∙ ap (λ (es : Bits). record { list = plain es; placed = true }) f ∙ ap (λ (ps : List Piece). record { list = ps; placed = true }) (plain_append bs z)
    ∙ ap (λ (y : Pieces). with_bits y z) (sym w))

-- bits more, or as many, keep the places in order
pub grown : {E : Type 0} (ms : List ℕ) (x y bs : Bits) (result : Result (Unit {0}) E) → AreInOrder 0 ms (length x) → OnOk result (y ≡ x ++ bs) → OnErr result (y ≡ x) → AreInOrder 0 ms (length y)
grown ms x y bs (Ok u) h k e = further 0 ms (length x) (length y) (omega (arith, ap length k, length-append x bs)) h
grown ms x y bs (Err d) h k e = subst (λ (z : Bits). AreInOrder 0 ms (length z)) (sym e) h

-- Bits between marks are written: those from the `done`th on are left.
pub record Walks (x y : Pieces) (ms : List ℕ) (bs : Bits) (done index : ℕ) (rest : Bits) : Type 0 where
  pub order : AreInOrder done (drop index ms) (done + length rest)
  pub remains : Remains x (writer_of (marked 0 ms bs)) y (writer_of (marked done (drop index ms) rest))

-- bits, and a mark after them
split_mark : (k m : ℕ) (ms : List ℕ) (front rest : Bits) → length front ≡ m - k → (p : ℕ) → writer_of (marked k (m ∷ ms) (front ++ rest)) p ≡ (just front ▹ (padding aligned ▹ writer_of (marked m ms rest))) p
split_mark k m ms front rest e p =
    let t : take (m - k) (front ++ rest) ≡ front = ap (λ (n : ℕ). take n (front ++ rest)) (sym e) ∙ take-append_seam front rest in
    let d : drop (m - k) (front ++ rest) ≡ rest = ap (λ (n : ℕ). drop n (front ++ rest)) (sym e) ∙ drop-append_seam front rest in
    let r = marked m ms rest in
    let q = after p front in
    let z : 0 % 8 ≡ after q (replicate (pad aligned q) false) % 8 = omega (arith, length-replicate (pad aligned q) false) in
    ap₂ (λ (xs ys : Bits). writer_of (plain xs ++ to_octet ∷ marked m ms ys) p) t d
    ∙ ap Some (settle_append (plain front) (to_octet ∷ r) p ∙ ap (λ (bs : Bits). bs ++ placed_bits (to_octet ∷ r) (after p bs)) (settle_plain front p)
    ∙ ap (λ (bs : Bits). front ++ (replicate (pad aligned q) false ++ bs)) (settle_same r 0 (after q (replicate (pad aligned q) false)) z))

pub walks_first : (x : Pieces) (ms : List ℕ) (bs : Bits) → AreInOrder 0 ms (length bs) → Walks x x ms bs 0 0 bs
walks_first x ms bs h = record { order = further 0 ms (length bs) (0 + length bs) (omega arith) h; remains = remains_all x (writer_of (marked 0 ms bs)) }

-- the next mark is one of them, and so many bits are in front of it
pub walks_on : (x y : Pieces) (ms : List ℕ) (bs : Bits) (done index : ℕ) (rest : Bits) (m : ℕ) → Walks x y ms bs done index rest → index < length ms → m ≡ get_or ms index 0 → (done ≤ m) × (m - done ≤ length rest)
walks_on x y ms bs done index rest m h l e =
    let o : AreInOrder done (get_or ms index 0 ∷ drop (suc index) ms) (done + length rest) = subst (λ (ns : List ℕ). AreInOrder done ns (done + length rest)) (drop-cons ms index 0 l) h.order in
    let r = ends_after (get_or ms index 0) (drop (suc index) ms) (done + length rest) o.1 in
    let f = o.0 in
    (omega arith, omega arith)

pub walks_next : (x y z w : Pieces) (ms : List ℕ) (bs : Bits) (done index next : ℕ) (rest front behind : Bits) (m : ℕ) → Walks x y ms bs done index rest → index < length ms → next ≡ suc index → m ≡ get_or ms index 0 →
    rest ≡ front ++ behind → length front ≡ m - done → z ≡ with_bits y front → Appends z (padding aligned) w → Walks x w ms bs m next behind
walks_next x y z w ms bs done index next rest front behind m h l i e c n d k =
    let ns = drop (suc index) ms in
    let cut : drop index ms ≡ m ∷ ns = drop-cons ms index 0 l ∙ ap (λ (j : ℕ). j ∷ ns) (sym e) in
    let o : AreInOrder done (m ∷ ns) (done + length rest) = subst (λ (js : List ℕ). AreInOrder done js (done + length rest)) cut h.order in
    let below : done ≤ m = o.0 in
    let all : done + length rest ≡ m + length behind = omega (arith, ap length c, length-append front behind) in
    let first : (p : ℕ) → writer_of (marked done (drop index ms) rest) p ≡ ((just front ▹ padding aligned) ▹ writer_of (marked m ns behind)) p =
    λ p. ap₂ (λ (js : List ℕ) (cs : Bits). writer_of (marked done js cs) p) cut c ∙ split_mark done m ns front behind n p ∙ then_assoc (just front) (padding aligned) (writer_of (marked m ns behind)) p in
    rw i (record {
      order = subst (λ (j : ℕ). AreInOrder m ns j) all o.1;
      remains = remains_after x y w (writer_of (marked 0 ms bs)) (writer_of (marked done (drop index ms) rest)) (just front ▹ padding aligned) (writer_of (marked m ns behind)) h.remains first
          (appends_then y z w (just front) (padding aligned) (appends_bits y z front d) k);
    })

pub walks_last : (x y z : Pieces) (ms : List ℕ) (bs : Bits) (done index : ℕ) (rest : Bits) → Walks x y ms bs done index rest → length ms ≤ index → z ≡ with_bits y rest → Appends x (writer_of (marked 0 ms bs)) z
walks_last x y z ms bs done index rest h l d =
    remains_last x y z (writer_of (marked 0 ms bs)) (writer_of (marked done (drop index ms) rest)) (just rest) h.remains
    (λ p. ap (λ (js : List ℕ). writer_of (marked done js rest) p) (drop_all index ms l) ∙ ap Some (settle_plain rest p)) (appends_bits y z rest d)

-- what is alone from position 0 on
pub settled_alone : (x y : Pieces) (o : Option (List ℕ)) (none bs : Bits) (ps : List Piece) → none ≡ [] → x ≡ record { list = plain none; placed = true } → Appends x (writer_of ps) y → pieces o bs ≡ y → bs ≡ placed_bits ps 0
settled_alone x y (Some ms) none bs ps n d h e = absurd (let f = ap (λ (q : Pieces). q.placed) e ∙ h.place ∙ ap (λ (q : Pieces). q.placed) d in cc)
settled_alone x y None none bs ps n d h e =
    let empty : x.list ≡ [] = ap (λ (q : Pieces). q.list) d ∙ ap plain n in
    let w : writer_of y.list 0 ≡ (writer_of [] ▹ writer_of ps) 0 = h.written 0 (λ t. refl) ∙ ap (λ (qs : List Piece). (writer_of qs ▹ writer_of ps) 0) empty in
    let v : placed_bits y.list 0 ≡ placed_bits ps (after 0 []) = cc in
    sym (settle_plain bs 0) ∙ ap (λ (q : Pieces). placed_bits q.list 0) e ∙ v ∙ settle_same ps (after 0 []) 0 (omega arith)

-- bits without marks
pub settled_plain : (x : Pieces) (o : Option (List ℕ)) (bs : Bits) → pieces o bs ≡ x → o ≡ None → bs ≡ placed_bits x.list 0
settled_plain x o bs e n = sym (settle_plain bs 0) ∙ ap (λ (q : Pieces). placed_bits q.list 0) (ap (λ (q : Option (List ℕ)). pieces q bs) (sym n) ∙ e)

pub settled_unmarked : (ms : List ℕ) (bs : Bits) → true ≡ (length ms == 0) → bs ≡ placed_bits (marked 0 ms bs) 0
settled_unmarked [] bs e = sym (settle_plain bs 0)
settled_unmarked (m ∷ ms) bs e = absurd (let z : length (m ∷ ms) ≡ 0 = eqb-true (length (m ∷ ms)) 0 (sym e) in omega arith)

-- as many are left as are taken
pub is_taken : {T E : Type 0} (result : Result T E) (l n : ℕ) → OnErr result (l < n) → n ≤ l → IsOk result
is_taken (Ok v) l n h k = refl
is_taken (Err e) l n h k = absurd (omega arith)
