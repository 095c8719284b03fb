-- Normally small numbers, as they are written (X.691 11.6).
use Rattle.std.proofs.Common.{◌≡◌, sym, ap, ◌∙◌, ℕ, ◌%◌, ◌<◌, ◌≤◌, Bool, true, false, cond, lt-ltb, [], ◌∷◌, arith, Some, None, pos}
use Rattle.std.proofs.lemmas.Bool.{le-ltb, lt-leb}
use Rattle.rasn_types.specs.Bits.{to_bits}
use Rattle.rasn_types.specs.Variants.{Variant}
use Rattle.per_core.specs.Counts.{number_under, small}
use Rattle.per_core.specs.Writers.{just, ◌▹◌}
use Rattle.per_pieces.specs.Pieces.{Appends, Pieces, with_bits}
use Rattle.per_pieces.proofs.Placed.{appends_bits, appends_same, appends_then}

-- below 64
pub appends_low : (a : Variant) (x y : Pieces) (n : ℕ) → n < 64 → y ≡ with_bits x (to_bits 7 n) → Appends x (small a n) y
unfolding small
appends_low a x y n h e =
    let m : n % 128 < 64 = omega arith in
    appends_same x y (just (to_bits 7 n)) (small a n)
    (λ p. ap (λ (b : Bool). Some (b ∷ to_bits 6 n)) (lt-leb 64 (n % 128) m) ∙ ap (λ (b : Bool). cond b (just (false ∷ to_bits 6 n)) (just (true ∷ []) ▹ number_under a (Some (pos 0)) None (pos n)) p) (sym (lt-ltb n 64 h)))
    (appends_bits x y _ e)

-- from 64 on
pub appends_high : (a : Variant) (x m y : Pieces) (n : ℕ) → 64 ≤ n → m ≡ with_bits x (true ∷ []) → Appends m (number_under a (Some (pos 0)) None (pos n)) y → Appends x (small a n) y
unfolding small
appends_high a x m y n h e k =
    appends_same x y (just (true ∷ []) ▹ number_under a (Some (pos 0)) None (pos n)) (small a n)
    (λ p. ap (λ (b : Bool). cond b (just (false ∷ to_bits 6 n)) (just (true ∷ []) ▹ number_under a (Some (pos 0)) None (pos n)) p) (sym (le-ltb n 64 h)))
    (appends_then x m y (just (true ∷ [])) (number_under a (Some (pos 0)) None (pos n)) (appends_bits x m (true ∷ []) e) k)
