-- Pieces one after another, from each position.
use Rattle.std.proofs.Common.{◌≡◌, refl, sym, ap, ◌∙◌, ℕ, ◌+◌, ◌-◌, ◌%◌, Bool, true, false, List, [], ◌∷◌, ◌++◌, length, replicate, Some, arith, append_assoc, append-nil, length-append}
use Rattle.std.proofs.lemmas.List.{length-replicate, map-append}
use Rattle.rasn_types.specs.Bits.{Bits}
use Rattle.rasn_types.specs.Variants.{aligned}
use Rattle.per_core.specs.Writers.{Writer, after, go_on, join, just, pad, padding, ◌▹◌}
use Rattle.per_pieces.specs.Pieces.{Piece, bit, to_octet, Pieces, plain, with_bits, bits_of, bit_count, set_bit, placed_bits, writer_of, MayBegin, Appends, Remains}
use Rattle.per_pieces.proofs.Writing.{then_assoc, then_same}

-- positions of one place within an octet
pub settle_same : (ps : List Piece) (p q : ℕ) → p % 8 ≡ q % 8 → placed_bits ps p ≡ placed_bits ps q
settle_same [] p q e = refl
settle_same (bit b ∷ ps) p q e = ap (λ (bs : Bits). b ∷ bs) (settle_same ps (p + 1) (q + 1) (omega (arith, e)))
settle_same (to_octet ∷ ps) p q e = ap (λ (n : ℕ). replicate ((8 - n) % 8) false ++ placed_bits ps 0) e

pub settle_append : (xs ys : List Piece) (p : ℕ) → placed_bits (xs ++ ys) p ≡ placed_bits xs p ++ placed_bits ys (after p (placed_bits xs p))
settle_append [] ys p = settle_same ys p (after p []) (omega arith)
settle_append (bit b ∷ xs) ys p =
    let cs = placed_bits xs (p + 1) in
    let e : after (p + 1) cs % 8 ≡ after p (b ∷ cs) % 8 = omega arith in
    ap (λ (bs : Bits). b ∷ bs) (settle_append xs ys (p + 1) ∙ ap (λ (bs : Bits). cs ++ bs) (settle_same ys (after (p + 1) cs) (after p (b ∷ cs)) e))
settle_append (to_octet ∷ xs) ys p =
    let z = replicate (pad aligned p) false in
    let cs = placed_bits xs 0 in
    let e : after 0 cs % 8 ≡ after p (z ++ cs) % 8 = omega (arith, length-append z cs, length-replicate (pad aligned p) false) in
    ap (λ (bs : Bits). z ++ bs) (settle_append xs ys 0 ∙ ap (λ (bs : Bits). cs ++ bs) (settle_same ys (after 0 cs) (after p (z ++ cs)) e))
    ∙ sym (append_assoc z cs (placed_bits ys (after p (z ++ cs))))

-- the same as writers
pub settled_then : (xs ys : List Piece) (p : ℕ) → writer_of (xs ++ ys) p ≡ (writer_of xs ▹ writer_of ys) p
settled_then xs ys p = ap Some (settle_append xs ys p)

pub settle_plain : (bs : Bits) (p : ℕ) → placed_bits (plain bs) p ≡ bs
settle_plain [] p = refl
settle_plain (b ∷ bs) p = ap (λ (cs : Bits). b ∷ cs) (settle_plain bs (p + 1))

pub plain_append : (xs ys : Bits) → plain (xs ++ ys) ≡ plain xs ++ plain ys
plain_append xs ys = map-append bit xs ys

pub bits_of_append : (xs ys : List Piece) → bits_of (xs ++ ys) ≡ bits_of xs ++ bits_of ys
bits_of_append [] ys = refl
bits_of_append (bit b ∷ xs) ys = ap (λ (cs : Bits). b ∷ cs) (bits_of_append xs ys)
bits_of_append (to_octet ∷ xs) ys = bits_of_append xs ys

pub bits_of_plain : (bs : Bits) → bits_of (plain bs) ≡ bs
bits_of_plain [] = refl
bits_of_plain (b ∷ bs) = ap (λ (cs : Bits). b ∷ cs) (bits_of_plain bs)

-- a bit after others is set
pub set_seam : (xs ys : List Piece) (c b : Bool) → set_bit (xs ++ bit c ∷ ys) (bit_count xs) b ≡ xs ++ bit b ∷ ys
set_seam [] ys c b = refl
set_seam (bit d ∷ xs) ys c b = ap (λ (ps : List Piece). bit d ∷ ps) (set_seam xs ys c b)
set_seam (to_octet ∷ xs) ys c b = ap (λ (ps : List Piece). to_octet ∷ ps) (set_seam xs ys c b)

-- some pieces are after others
pub appends_pieces : (x y : Pieces) (ps : List Piece) → y ≡ record { list = x.list ++ ps; placed = x.placed } → Appends x (writer_of ps) y
appends_pieces x y ps e = record {
  behind = ps;
  list = ap (λ (z : Pieces). z.list) e;
  place = ap (λ (z : Pieces). z.placed) e;
  written = λ p b. ap (λ (z : Pieces). writer_of z.list p) e ∙ settled_then x.list ps p;
}

-- writers that write the same
pub appends_same : (x y : Pieces) (f g : Writer) → ((p : ℕ) → f p ≡ g p) → Appends x f y → Appends x g y
appends_same x y f g e h = record {
  behind = h.behind;
  list = h.list;
  place = h.place;
  written = λ p b. h.written p b ∙ ap (join (placed_bits x.list p)) (e (after p (placed_bits x.list p)));
}

pub appends_bits : (x y : Pieces) (bs : Bits) → y ≡ with_bits x bs → Appends x (just bs) y
appends_bits x y bs e = appends_same x y (writer_of (plain bs)) (just bs) (λ p. ap Some (settle_plain bs p)) (appends_pieces x y (plain bs) e)

pub appends_none : (x : Pieces) → Appends x (just []) x
appends_none x = appends_bits x x [] (ap (λ (ps : List Piece). record { list = ps; placed = x.placed }) (sym (append-nil x.list)))

-- the positions are those of what stood before
pub begins_then : (x y : Pieces) → y.placed ≡ x.placed → (p : ℕ) → MayBegin x p → MayBegin y p
begins_then x y e p b t = b (sym e ∙ t)

pub appends_then : (x y z : Pieces) (f g : Writer) → Appends x f y → Appends y g z → Appends x (f ▹ g) z
appends_then x y z f g h k = record {
  behind = h.behind ++ k.behind;
  list = k.list ∙ ap (λ (ps : List Piece). ps ++ k.behind) h.list ∙ append_assoc x.list h.behind k.behind;
  place = k.place ∙ h.place;
  written = λ p b. k.written p (begins_then x y h.place p b) ∙ ap (λ o. go_on o g p) (h.written p b) ∙ sym (then_assoc (writer_of x.list) f g p);
}

-- X.691 11.1: padding whose place isn't known
pub appends_mark : (x y : Pieces) → y ≡ record { list = x.list ++ to_octet ∷ []; placed = x.placed } → Appends x (padding aligned) y
appends_mark x y e = appends_same x y (writer_of (to_octet ∷ [])) (padding aligned) (λ p. ap Some (append-nil (replicate (pad aligned p) false))) (appends_pieces x y (to_octet ∷ []) e)

-- X.691 11.1: after bits that begin at position 0
pub appends_padding : (x y : Pieces) (bs : Bits) → x ≡ record { list = plain bs; placed = true } → y ≡ with_bits x (replicate ((8 - length bs % 8) % 8) false) → Appends x (padding aligned) y
appends_padding x y bs d e =
    let n = (8 - length bs % 8) % 8 in
    let h = appends_bits x y (replicate n false) e in
    record {
      behind = h.behind;
      list = h.list;
      place = h.place;
      written = λ p b.
          let z : p ≡ 0 = b (ap (λ (q : Pieces). q.placed) d) in
          let c : placed_bits x.list p ≡ bs = ap (λ (q : Pieces). placed_bits q.list p) d ∙ settle_plain bs p in
          let m : n ≡ pad aligned (after p (placed_bits x.list p)) = (rw (c, z) (let f : n ≡ (8 - (0 + length bs) % 8 % 8) % 8 = omega arith in f)) in
          h.written p b ∙ ap (λ (i : ℕ). Some (placed_bits x.list p ++ replicate i false)) m;
    }

pub remains_all : (x : Pieces) (all : Writer) → Remains x all x all
remains_all x all = record { behind = []; list = sym (append-nil x.list); place = refl; written = λ p b. refl }

pub remains_after : (x y z : Pieces) (all rest f next : Writer) → Remains x all y rest → ((p : ℕ) → rest p ≡ (f ▹ next) p) → Appends y f z → Remains x all z next
remains_after x y z all rest f next h e k = record {
  behind = h.behind ++ k.behind;
  list = k.list ∙ ap (λ (ps : List Piece). ps ++ k.behind) h.list ∙ append_assoc x.list h.behind k.behind;
  place = k.place ∙ h.place;
  written = λ p b. ap (λ o. go_on o next p) (k.written p (begins_then x y h.place p b)) ∙ sym (then_assoc (writer_of y.list) f next p)
      ∙ sym (then_same (writer_of y.list) (writer_of y.list) rest (f ▹ next) (λ q. refl) e p) ∙ h.written p b;
}

pub remains_last : (x y z : Pieces) (all rest f : Writer) → Remains x all y rest → ((p : ℕ) → rest p ≡ f p) → Appends y f z → Appends x all z
remains_last x y z all rest f h e k = record {
  behind = h.behind ++ k.behind;
  list = k.list ∙ ap (λ (ps : List Piece). ps ++ k.behind) h.list ∙ append_assoc x.list h.behind k.behind;
  place = k.place ∙ h.place;
  written = λ p b. k.written p (begins_then x y h.place p b) ∙ sym (then_same (writer_of y.list) (writer_of y.list) rest f (λ q. refl) e p) ∙ h.written p b;
}

-- one thing was written, and of what was to be written after it so much remains
pub remains_behind : (x m y : Pieces) (f g rest : Writer) → Appends x f m → Remains m g y rest → Remains x (f ▹ g) y rest
remains_behind x m y f g rest h k = record {
  behind = h.behind ++ k.behind;
  list = k.list ∙ ap (λ (ps : List Piece). ps ++ k.behind) h.list ∙ append_assoc x.list h.behind k.behind;
  place = k.place ∙ h.place;
  written = λ p b. k.written p (begins_then x m h.place p b) ∙ ap (λ o. go_on o g p) (h.written p b) ∙ sym (then_assoc (writer_of x.list) f g p);
}

pub remains_same : (x y : Pieces) (f g rest : Writer) → ((p : ℕ) → f p ≡ g p) → Remains x f y rest → Remains x g y rest
remains_same x y f g rest e h = record {
  behind = h.behind;
  list = h.list;
  place = h.place;
  written = λ p b. h.written p b ∙ then_same (writer_of x.list) (writer_of x.list) f g (λ q. refl) e p;
}

pub remains_then : (x y z : Pieces) (all rest more : Writer) → Remains x all y rest → Remains y rest z more → Remains x all z more
remains_then x y z all rest more h k = record {
  behind = h.behind ++ k.behind;
  list = k.list ∙ ap (λ (ps : List Piece). ps ++ k.behind) h.list ∙ append_assoc x.list h.behind k.behind;
  place = k.place ∙ h.place;
  written = λ p b. k.written p (begins_then x y h.place p b) ∙ h.written p b;
}

-- nothing remains
pub remains_none : (x y : Pieces) (all rest : Writer) → ((p : ℕ) → rest p ≡ just [] p) → Remains x all y rest → Appends x all y
remains_none x y all rest e h = remains_last x y y all rest (just []) h e (appends_none y)
