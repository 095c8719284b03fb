-- Bits that are given one after another in the place of zeros.
use Rattle.std.proofs.Common.{◌≡◌, refl, sym, ap, ap₂, ◌∙◌, subst, ℕ, zero, suc, ◌+◌, ◌-◌, ◌*◌, ◌<◌, ◌%◌, ◌^◌, Bool, false, List, [], ◌∷◌, ◌++◌, length, replicate, nat_le, arith, append-nil, append_assoc, length-append}
use native.Mathlib.Numerals.{unary_clauses}
use Rattle.per_pieces.specs.Pieces.{Piece, bit, plain, bits_of, bit_count, set_bit}
use Rattle.per_pieces.proofs.Placed.{bits_of_append, plain_append, set_seam}
use Rattle.rasn_types.specs.Bits.{Bits, to_bits}
use Rattle.per_write.specs.Choices.{IsFilled}

-- some bits of a number are given, and so many are left
pub record Filled (w number : ℕ) (front rest : List Piece) (left next : ℕ) (now : List Piece) : Type 0 where
  pub done : Bits
  pub given : done ++ to_bits left number ≡ to_bits w number
  pub list : now ≡ (front ++ plain done) ++ (plain (replicate left false) ++ rest)
  pub place : next ≡ bit_count (front ++ plain done)

abbrev pub AreFilled : ℕ → ℕ → ℕ → List Piece → ℕ → ℕ → List Piece → Type 0
AreFilled place w number before left next now =
    (front rest : List Piece) → before ≡ front ++ (plain (replicate w false) ++ rest) → place ≡ bit_count front → Filled w number front rest left next now

pub none_filled : (place w number : ℕ) (before : List Piece) → AreFilled place w number before w place before
none_filled place w number before front rest e d = record {
  done = [];
  given = refl;
  list = e ∙ ap (λ ps. ps ++ (plain (replicate w false) ++ rest)) (sym (append-nil front));
  place = d ∙ ap bit_count (sym (append-nil front));
}

one_after : (front : List Piece) (done : Bits) (c : Bool) → (front ++ plain done) ++ bit c ∷ [] ≡ front ++ plain (done ++ c ∷ [])
one_after front done c = append_assoc front (plain done) (bit c ∷ []) ∙ ap (λ (ps : List Piece). front ++ ps) (sym (plain_append done (c ∷ [])))

-- one bit more
pub next_filled : (place w number : ℕ) (before now : List Piece) (left next : ℕ) → AreFilled place w number before (suc left) next now
    → AreFilled place w number before left (next + 1) (set_bit now next (nat_le (2 ^ left) (number % 2 ^ suc left)))
next_filled place w number before now left next h front rest e d =
    let f = h front rest e d in
    let b = nat_le (2 ^ left) (number % 2 ^ suc left) in
    record {
      done = f.done ++ b ∷ [];
      given = append_assoc f.done (b ∷ []) (to_bits left number) ∙ f.given;
      list = ap₂ (λ ps i. set_bit ps i b) f.list f.place ∙ set_seam (front ++ plain f.done) (plain (replicate left false) ++ rest) false b
          ∙ sym (append_assoc (front ++ plain f.done) (bit b ∷ []) (plain (replicate left false) ++ rest)) ∙ ap (λ ps. ps ++ (plain (replicate left false) ++ rest)) (one_after front f.done b);
      place = omega (arith, f.place, ap length (bits_of_append (front ++ plain f.done) (bit b ∷ [])), length-append (bits_of (front ++ plain f.done)) (b ∷ []), ap bit_count (one_after front f.done b));
    }

-- all of them
pub all_filled : (place w number : ℕ) (before now : List Piece) (next : ℕ) → AreFilled place w number before 0 next now → IsFilled place w number before now
all_filled place w number before now next h front rest e d =
    let f = h front rest e d in
    f.list ∙ append_assoc front (plain f.done) rest ∙ ap (λ (bs : Bits). front ++ (plain bs ++ rest)) (sym (append-nil f.done) ∙ f.given)

-- the bit of a weight, and so many left below it
pub bit_filled : (place w number : ℕ) (before now then : List Piece) (left next weight : ℕ) → 0 < left → weight ≡ 2 ^ (left - 1) → AreFilled place w number before left next now
    → then ≡ set_bit now next (nat_le weight (number % (2 * weight))) → AreFilled place w number before (left - 1) (next + 1) then
bit_filled place w number before now then zero next weight l e h t = absurd (omega arith)
bit_filled place w number before now then (suc m) next weight l e h t =
    let d : suc m - 1 ≡ m = omega arith in
    let i : weight ≡ 2 ^ m = e ∙ ap (λ (k : ℕ). 2 ^ k) d in
    let j : 2 * weight ≡ 2 ^ suc m = ap (λ (k : ℕ). 2 * k) i ∙ simp unary_clauses (omega arith) in
    subst (λ (k : ℕ). AreFilled place w number before k (next + 1) then) (sym d)
    (subst (λ (ps : List Piece). AreFilled place w number before m (next + 1) ps) (sym (t ∙ ap₂ (λ (a b : ℕ). set_bit now next (nat_le a (number % b))) i j))
    (next_filled place w number before now m next h))
