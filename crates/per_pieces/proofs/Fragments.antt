-- Items after an unconstrained length, fragment by fragment.
use Rattle.std.proofs.Common.{◌≡◌, refl, sym, ap, ◌∙◌, subst, ℕ, zero, suc, ◌+◌, ◌-◌, ◌*◌, ◌/◌, ◌%◌, ◌^◌, ◌<◌, ◌≤◌, Bool, true, false, cond, min, ltb, lt-ltb, List, [], ◌∷◌, ◌++◌, length, take, drop, replicate, arith, Some, length-take, length-drop, get_or}
use Rattle.std.proofs.lemmas.Bool.{le-ltb}
use Rattle.std.specs.Prelude.{slice_range}
use Rattle.std.proofs.lemmas.List.{take-map, drop-map}
use Rattle.std.proofs.Math.Seq.{take-length}
use Rattle.rasn_types.specs.Bits.{to_bits, unpack}
use Rattle.rasn_types.specs.Variants.{Variant, aligned, unaligned}
use Rattle.per_core.specs.Writers.{Writer, just, ◌▹◌, join, go_on, after, one_by_one, padding, written_if}
use Rattle.per_core.specs.Counts.{fragment_sizes, unless_zero, in_fragments, determinant, octet_items, octet_writers, ItemKind, counted_in, unconstrained_octets}
use Rattle.rasn_constraints.specs.Bounds.{any_size}
use Rattle.per_pieces.specs.Fragments.{one_fragment, unconstrained_length}
use Rattle.per_pieces.specs.Pieces.{Appends, Pieces, with_bits}
use Rattle.per_pieces.proofs.Placed.{appends_bits, appends_none, appends_same, appends_then}
use Rattle.per_pieces.proofs.Writing.{then_assoc, then_nothing, then_same}

unless_zero-some : (m : ℕ) → 0 < m → unless_zero m ≡ m ∷ []
unless_zero-some zero h = absurd (omega arith)
unless_zero-some (suc m) h = refl

-- few items are one fragment, by their sizes
pub fragment_sizes-few : (n : ℕ) → n < 16384 → fragment_sizes n ≡ n ∷ []
fragment_sizes-few n h =
    let e : n / 65536 ≡ 0 = omega (arith, h) in
    let f : n % 65536 / 16384 * 16384 ≡ 0 = omega (arith, h) in
    let g : n % 16384 ≡ n = omega (arith, h) in
    ap (λ (m : ℕ). replicate m 65536 ++ (unless_zero (n % 65536 / 16384 * 16384) ++ n % 16384 ∷ [])) e ∙ (ap (λ (m : ℕ). unless_zero m ++ n % 16384 ∷ []) f ∙ ap (λ (m : ℕ). m ∷ []) g)

-- the size of the first fragment of n items
abbrev pub first_fragment : ℕ → ℕ
first_fragment n = min n 65536 / 16384 * 16384

-- the fragment_sizes of many items begin with the largest fragment
pub fragment_sizes-many : (n : ℕ) → 16384 ≤ n → fragment_sizes n ≡ first_fragment n ∷ fragment_sizes (n - first_fragment n)
fragment_sizes-many n h = go (n / 65536) refl
  where
    go : (q : ℕ) → n / 65536 ≡ q → fragment_sizes n ≡ first_fragment n ∷ fragment_sizes (n - first_fragment n)
    go (suc q) e =
        let f : first_fragment n ≡ 65536 = omega (arith, e) in
        let d : (n - 65536) / 65536 ≡ q = omega (arith, e) in
        let r : (n - 65536) % 65536 ≡ n % 65536 = omega (arith, e) in
        let s : (n - 65536) % 16384 ≡ n % 16384 = omega (arith, e) in
        ap (λ (m : ℕ). replicate m 65536 ++ (unless_zero (n % 65536 / 16384 * 16384) ++ n % 16384 ∷ [])) e
        ∙ sym (ap (λ (m : ℕ). m ∷ fragment_sizes (n - m)) f
        ∙ ap (λ (m : ℕ). 65536 ∷ (replicate m 65536 ++ (unless_zero ((n - 65536) % 65536 / 16384 * 16384) ++ (n - 65536) % 16384 ∷ []))) d
        ∙ ap (λ (m : ℕ). 65536 ∷ (replicate q 65536 ++ (unless_zero (m / 16384 * 16384) ++ (n - 65536) % 16384 ∷ []))) r
        ∙ ap (λ (m : ℕ). 65536 ∷ (replicate q 65536 ++ (unless_zero (n % 65536 / 16384 * 16384) ++ m ∷ []))) s)
    go zero e =
        let f : n % 65536 / 16384 * 16384 ≡ first_fragment n = omega (arith, e) in
        let r : n % 16384 ≡ n - first_fragment n = omega (arith, e) in
        let l : n - first_fragment n < 16384 = omega (arith, e) in
        ap (λ (m : ℕ). replicate m 65536 ++ (unless_zero (n % 65536 / 16384 * 16384) ++ n % 16384 ∷ [])) e
        ∙ ap (λ (m : ℕ). unless_zero m ++ n % 16384 ∷ []) f
        ∙ ap (λ (m : List ℕ). m ++ n % 16384 ∷ []) (unless_zero-some (first_fragment n) (omega (arith, e, h)))
        ∙ ap (λ (m : ℕ). first_fragment n ∷ m ∷ []) r
        ∙ ap (λ (m : List ℕ). first_fragment n ∷ m) (sym (fragment_sizes-few (n - first_fragment n) l))

pub length-octet_writers : (os : List ℕ) → length (octet_writers os) ≡ length os
length-octet_writers [] = refl
length-octet_writers (o ∷ os) = ap suc (length-octet_writers os)

-- octets in one fragment are their bits
pub octets_one_by_one : (os : List ℕ) → ((k : ℕ) → get_or os k 0 < 256) → (p : ℕ) → one_by_one (octet_writers os) p ≡ Some (unpack os)
octets_one_by_one [] h p = refl
octets_one_by_one (o ∷ os) h p =
    ap (λ (b : Bool). go_on (written_if b (just (to_bits 8 o)) p) (one_by_one (octet_writers os)) p) (lt-ltb o 256 (h 0))
    ∙ ap (join (to_bits 8 o)) (octets_one_by_one os (λ k. h (suc k)) (after p (to_bits 8 o)))

-- as many items as may be counted are written in fragment_sizes
pub in_their_fragments : (a : Variant) (kind : ItemKind) (ws : List Writer) → length ws < 2 ^ 64 → (p : ℕ) → in_fragments a (fragment_sizes (length ws)) ws p ≡ counted_in a any_size kind ws p
in_their_fragments a kind ws l p = ap (λ (b : Bool). written_if b (in_fragments a (fragment_sizes (length ws)) ws) p) (sym (lt-ltb (length ws) (2 ^ 64) l))

-- many items are a fragment and the rest
pub fragments_of_many : (a : Variant) (ws : List Writer) (m : ℕ) → 16384 ≤ length ws → m ≡ first_fragment (length ws) → (p : ℕ) →
    in_fragments a (fragment_sizes (length ws)) ws p ≡ (one_fragment a (take m ws) ▹ in_fragments a (fragment_sizes (length (drop m ws))) (drop m ws)) p
fragments_of_many a ws m h e p =
    let d : length (drop m ws) ≡ length ws - m = length-drop m ws in
    let t : length (take m ws) ≡ m = length-take m ws ∙ omega (arith, e) in
    let r : fragment_sizes (length ws) ≡ m ∷ fragment_sizes (length (drop m ws)) = fragment_sizes-many (length ws) h ∙ rw (← e, d) refl in
    let rest : Writer = in_fragments a (fragment_sizes (length (drop m ws))) (drop m ws) in
    ap (λ (ms : List ℕ). in_fragments a ms ws p) r
    ∙ ap (λ (n : ℕ). (padding a ▹ just (determinant n) ▹ one_by_one (take m ws) ▹ rest) p) (sym t)
    ∙ then_assoc (padding a) (just (determinant (length (take m ws)))) (one_by_one (take m ws) ▹ rest) p
    ∙ then_assoc (padding a ▹ just (determinant (length (take m ws)))) (one_by_one (take m ws)) rest p

-- few items are one fragment
pub fragments_of_few : (a : Variant) (ws : List Writer) → length ws < 16384 → (p : ℕ) → in_fragments a (fragment_sizes (length ws)) ws p ≡ one_fragment a ws p
fragments_of_few a ws h p =
    ap (λ (ms : List ℕ). in_fragments a ms ws p) (fragment_sizes-few (length ws) h)
    ∙ ap (λ (vs : List Writer). (padding a ▹ just (determinant (length ws)) ▹ one_by_one vs ▹ just []) p) (take-length ws)
    ∙ then_assoc (padding a) (just (determinant (length ws))) (one_by_one ws ▹ just []) p
    ∙ then_assoc (padding a ▹ just (determinant (length ws))) (one_by_one ws) (just []) p
    ∙ then_nothing (one_fragment a ws) p

-- X.691 11.9.3.6: the count of few items in an octet
pub appends_short : (x y : Pieces) (n : ℕ) → n < 128 → y ≡ with_bits x (to_bits 8 n) → Appends x (just (determinant n)) y
unfolding determinant
appends_short x y n h e =
    appends_same x y (just (to_bits 8 n)) (just (determinant n))
    (λ p. ap (λ (b : Bool). Some (cond b (to_bits 8 n) (cond (ltb n 16384) (true ∷ false ∷ to_bits 14 n) (to_bits 8 (192 + n / 16384))))) (sym (lt-ltb n 128 h))) (appends_bits x y (to_bits 8 n) e)

-- X.691 11.9.3.7: the bits 10 and the count in 14 bits
pub appends_long : (x y z : Pieces) (n : ℕ) → 128 ≤ n → n < 16384 → y ≡ with_bits x (true ∷ false ∷ []) → z ≡ with_bits y (to_bits 14 n) → Appends x (just (determinant n)) z
unfolding determinant
appends_long x y z n l h d e =
    appends_same x z (just (true ∷ false ∷ []) ▹ just (to_bits 14 n)) (just (determinant n))
    (λ p. ap (λ (b : Bool). Some (cond b (true ∷ false ∷ to_bits 14 n) (to_bits 8 (192 + n / 16384)))) (sym (lt-ltb n 16384 h))
    ∙ ap (λ (b : Bool). Some (cond b (to_bits 8 n) (cond (ltb n 16384) (true ∷ false ∷ to_bits 14 n) (to_bits 8 (192 + n / 16384))))) (sym (le-ltb n 128 l)))
    (appends_then x y z (just (true ∷ false ∷ [])) (just (to_bits 14 n)) (appends_bits x y (true ∷ false ∷ []) d) (appends_bits y z (to_bits 14 n) e))

-- X.691 11.9.3.8: the bits 11 and how many times 16384, in six bits
pub appends_fragment : (x y : Pieces) (n : ℕ) → 16384 ≤ n → y ≡ with_bits x (to_bits 8 (192 + n / 16384)) → Appends x (just (determinant n)) y
unfolding determinant
appends_fragment x y n l e =
    appends_same x y (just (to_bits 8 (192 + n / 16384))) (just (determinant n))
    (λ p. ap (λ (b : Bool). Some (cond b (true ∷ false ∷ to_bits 14 n) (to_bits 8 (192 + n / 16384)))) (sym (le-ltb n 16384 l))
    ∙ ap (λ (b : Bool). Some (cond b (to_bits 8 n) (cond (ltb n 16384) (true ∷ false ∷ to_bits 14 n) (to_bits 8 (192 + n / 16384))))) (sym (le-ltb n 128 (omega arith))))
    (appends_bits x y (to_bits 8 (192 + n / 16384)) e)

-- X.691 11.1: padding in the aligned variant
pub appends_padding : (a : Variant) (x y : Pieces) → a ≡ aligned → Appends x (padding aligned) y → Appends x (padding a) y
appends_padding a x y v h = subst (λ (b : Variant). Appends x (padding b) y) (sym v) h

-- and in the other one
pub appends_nothing : (a : Variant) (x : Pieces) → a ≡ unaligned → Appends x (padding a) x
appends_nothing a x v = subst (λ (b : Variant). Appends x (padding b) x) (sym v) (appends_none x)

-- the octets between two places
pub octets_between : (os : List ℕ) (start end : ℕ) → octet_writers (slice_range os start end) ≡ slice_range (octet_writers os) start end
octets_between os start end = sym (ap (take (end - start)) (drop-map _ start os) ∙ take-map _ (end - start) (drop start os))

-- octets in one fragment, after their count
pub appends_counted : (a : Variant) (x y z : Pieces) (os : List ℕ) → length os < 16384 → ((k : ℕ) → get_or os k 0 < 256) → Appends x (unconstrained_length a (length os)) y →
    z ≡ with_bits y (unpack os) → Appends x (unconstrained_octets a os) z
appends_counted a x y z os l h c e =
    let ws = octet_writers os in
    let n = length-octet_writers os in
    appends_same x z (unconstrained_length a (length os) ▹ just (unpack os)) (unconstrained_octets a os)
    (λ p. then_same (unconstrained_length a (length os)) (unconstrained_length a (length ws)) (just (unpack os)) (one_by_one ws)
    (λ q. ap (λ (m : ℕ). unconstrained_length a m q) (sym n)) (λ q. sym (octets_one_by_one os h q)) p
    ∙ sym (fragments_of_few a ws (omega (arith, n, l)) p) ∙ in_their_fragments a octet_items ws (omega (arith, n, l)) p)
    (appends_then x y z (unconstrained_length a (length os)) (just (unpack os)) c (appends_bits y z (unpack os) e))
