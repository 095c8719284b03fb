-- Zero bits one after another.
use Rattle.std.proofs.Common.{◌≡◌, refl, sym, ap, ap₂, ◌∙◌, ℕ, zero, suc, ◌+◌, ◌-◌, ◌≤◌, false, [], ◌∷◌, ◌++◌, List, replicate, arith, append-nil, append_assoc, pow_pos, ◌^◌, ◌%◌, mod-eq_of_lt}
use Rattle.std.proofs.lemmas.Bool.{lt-leb}
use Rattle.std.proofs.lemmas.List.{replicate-append-replicate}
use Rattle.rasn_types.specs.Bits.{Bits, to_bits}
use Rattle.per_pieces.specs.Pieces.{Piece, Pieces, plain, with_bits}
use Rattle.per_pieces.proofs.Placed.{plain_append}

-- the bits of nothing
pub to_bits-zeros : (w : ℕ) → to_bits w 0 ≡ replicate w false
to_bits-zeros zero = refl
to_bits-zeros (suc w) = ap₂ (λ b bs. b ∷ bs) (lt-leb (2 ^ w) (0 % 2 ^ suc w) (let e : 0 % 2 ^ suc w ≡ 0 = mod-eq_of_lt (pow_pos (suc w)) in omega (arith, pow_pos w))) (to_bits-zeros w)

-- bits after bits
pub with_both : (x : Pieces) (bs cs : Bits) → with_bits (with_bits x bs) cs ≡ with_bits x (bs ++ cs)
with_both x bs cs = ap (λ (ps : List Piece). record { list = ps; placed = x.placed }) (append_assoc x.list (plain bs) (plain cs) ∙ ap (λ (ps : List Piece). x.list ++ ps) (sym (plain_append bs cs)))

pub with_none : (x : Pieces) → x ≡ with_bits x []
with_none x = ap (λ (ps : List Piece). record { list = ps; placed = x.placed }) (sym (append-nil x.list))

pub no_zeros : (x : Pieces) (n : ℕ) → x ≡ with_bits x (replicate (n - n) false)
no_zeros x n = with_none x ∙ ap (λ (i : ℕ). with_bits x (replicate i false)) (let e : 0 ≡ n - n = omega arith in e)

-- so many zeros more
pub further_zeros : (x y z : Pieces) (n m w : ℕ) → m ≤ n → w ≤ m → y ≡ with_bits x (replicate (n - m) false) → z ≡ with_bits y (replicate w false) → z ≡ with_bits x (replicate (n - (m - w)) false)
further_zeros x y z n m w h k a b = b ∙ ap (λ (q : Pieces). with_bits q (replicate w false)) a ∙ with_both x (replicate (n - m) false) (replicate w false)
    ∙ ap (λ (bs : Bits). with_bits x bs) (replicate-append-replicate (n - m) w false ∙ ap (λ (i : ℕ). replicate i false) (let e : n - m + w ≡ n - (m - w) = omega arith in e))
