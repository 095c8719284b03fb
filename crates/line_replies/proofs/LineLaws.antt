-- The lines of an input, one by one.
use Rattle.std.proofs.Common.{◌≡◌, refl, sym, ap, ◌∙◌, suc, ℕ, ◌-◌, List, [], ◌∷◌, length, Bool, true, false, map, arith, take}
use Rattle.std.specs.Prelude.{◌≢◌, ◌==◌, if◌then◌else◌, nat_lt}
use Rattle.std.specs.Io.BufRead.{first_piece, strip_last, take_through, drop_through, ends_with_byte}
use Rattle.line_replies.specs.Lines.{line_of, lines_of, pieces_of, onto_first}

if-cons : (t : Bool) (x : ℕ) (us vs : List ℕ) → (if t then x ∷ us else x ∷ vs) ≡ x ∷ (if t then us else vs)
if-cons true x us vs = refl
if-cons false x us vs = refl

some_octets : (n : ℕ) → nat_lt 0 (suc n) ≡ true
some_octets n = search arith

ends-cons : (b x y : ℕ) (ys : List ℕ) → ends_with_byte b (x ∷ y ∷ ys) ≡ ends_with_byte b (y ∷ ys)
ends-cons b x y ys =
    let one : suc (suc (length ys)) - 1 ≡ suc (length ys) = omega arith in
    let none : suc (length ys) - 1 ≡ length ys = omega arith in
    rw one (rw none (rw (some_octets (suc (length ys))) (rw (some_octets (length ys)) refl)))

strip_last-cons : (b x y : ℕ) (ys : List ℕ) → strip_last b (x ∷ y ∷ ys) ≡ x ∷ strip_last b (y ∷ ys)
strip_last-cons b x y ys =
    let one : suc (suc (length ys)) - 1 ≡ suc (length ys) = omega arith in
    let none : suc (length ys) - 1 ≡ length ys = omega arith in
    ap (λ (t : Bool). if t then take (suc (suc (length ys)) - 1) (x ∷ y ∷ ys) else x ∷ y ∷ ys) (ends-cons b x y ys)
    ∙ ap (λ (n : ℕ). if ends_with_byte b (y ∷ ys) then take n (x ∷ y ∷ ys) else x ∷ y ∷ ys) one
    ∙ if-cons (ends_with_byte b (y ∷ ys)) x (take (length ys) (y ∷ ys)) (y ∷ ys)
    ∙ ap (λ (n : ℕ). x ∷ (if ends_with_byte b (y ∷ ys) then take n (y ∷ ys) else y ∷ ys)) (sym none)

strip_last-one : (b x : ℕ) → (x == b) ≡ false → strip_last b (x ∷ []) ≡ x ∷ []
strip_last-one b x e = rw e refl

piece-cons : (x y : ℕ) (ys : List ℕ) → strip_last 10 (x ∷ take_through 10 (y ∷ ys)) ≡ x ∷ first_piece 10 (y ∷ ys)
piece-cons x y ys = by_case (y == 10) refl
  where
    by_case : (t : Bool) → (y == 10) ≡ t → strip_last 10 (x ∷ take_through 10 (y ∷ ys)) ≡ x ∷ first_piece 10 (y ∷ ys)
    by_case true e = rw e (strip_last-cons 10 x y [])
    by_case false e = rw e (strip_last-cons 10 x y (take_through 10 ys))

strip_last-byte : (b x : ℕ) → (x == b) ≡ true → strip_last b (x ∷ []) ≡ []
strip_last-byte b x e = rw e refl

pieces-feed : (x : ℕ) (xs : List ℕ) → (x == 10) ≡ true →
    pieces_of (x ∷ xs) ≡ first_piece 10 (x ∷ xs) ∷ pieces_of (drop_through 10 (x ∷ xs))
pieces-feed x xs e = rw e (ap (λ p. p ∷ pieces_of xs) (sym (strip_last-byte 10 x e)))

pieces-last : (x : ℕ) → (x == 10) ≡ false →
    pieces_of (x ∷ []) ≡ first_piece 10 (x ∷ []) ∷ pieces_of (drop_through 10 (x ∷ []))
pieces-last x e = rw e (ap (λ p. p ∷ []) (sym (strip_last-one 10 x e)))

pieces-more : (x y : ℕ) (ys : List ℕ) → (x == 10) ≡ false →
    pieces_of (y ∷ ys) ≡ first_piece 10 (y ∷ ys) ∷ pieces_of (drop_through 10 (y ∷ ys)) →
    pieces_of (x ∷ y ∷ ys) ≡ first_piece 10 (x ∷ y ∷ ys) ∷ pieces_of (drop_through 10 (x ∷ y ∷ ys))
pieces-more x y ys e m =
    rw e (ap (onto_first x) m ∙ ap (λ p. p ∷ pieces_of (drop_through 10 (y ∷ ys))) (sym (piece-cons x y ys)))

pieces-by : (x y : ℕ) (ys : List ℕ) (t : Bool) → (x == 10) ≡ t →
    pieces_of (y ∷ ys) ≡ first_piece 10 (y ∷ ys) ∷ pieces_of (drop_through 10 (y ∷ ys)) →
    pieces_of (x ∷ y ∷ ys) ≡ first_piece 10 (x ∷ y ∷ ys) ∷ pieces_of (drop_through 10 (x ∷ y ∷ ys))
pieces-by x y ys true e m = pieces-feed x (y ∷ ys) e
pieces-by x y ys false e m = pieces-more x y ys e m

pieces-one : (x : ℕ) (t : Bool) → (x == 10) ≡ t →
    pieces_of (x ∷ []) ≡ first_piece 10 (x ∷ []) ∷ pieces_of (drop_through 10 (x ∷ []))
pieces-one x true e = pieces-feed x [] e
pieces-one x false e = pieces-last x e

-- the first piece, and those after it
pieces-cons : (x : ℕ) (xs : List ℕ) →
    pieces_of (x ∷ xs) ≡ first_piece 10 (x ∷ xs) ∷ pieces_of (drop_through 10 (x ∷ xs))
pieces-cons x [] = pieces-one x (x == 10) refl
pieces-cons x (y ∷ ys) = pieces-by x y ys (x == 10) refl (pieces-cons y ys)

-- the first line, and those after it
pub lines-cons : (octets : List ℕ) → octets ≢ [] → lines_of octets ≡ line_of octets ∷ lines_of (drop_through 10 octets)
lines-cons [] some = elim (some refl) [ ]
lines-cons (x ∷ xs) some = ap (map (strip_last 13)) (pieces-cons x xs)
