-- Whole numbers under bounds, as they are written.
use Rattle.std.proofs.Common.{◌≡◌, refl, sym, ap, ◌∙◌, subst, ℕ, zero, suc, ◌+◌, ◌-◌, ◌*◌, ◌/◌, ◌^◌, ◌<◌, ◌≤◌, Bool, true, false, cond, max, min, ◌%◌, eqb, leb, lt-ltb, le-leb, List, [], ◌∷◌, length, get_or, arith, Some}
use Rattle.std.proofs.lemmas.Bool.{lt-leb, ne_eqb}
use Rattle.rasn_types.specs.Bits.{Bits, to_bits, width, unpack, pack, AreOctets, natural_bits, octets_of_natural}
use Rattle.rasn_types.specs.Variants.{Variant, aligned, unaligned}
use Rattle.rasn_types.proofs.Bits.{width_holds, length-to_bits}
use Rattle.rasn_types.proofs.Octets.{unpack-pack, length-pack, octets-pack}
use Rattle.per_core.specs.Writers.{just, ◌▹◌, padding, written_if, one_by_one}
use Rattle.per_core.specs.Counts.{constrained_whole, counted_octets, determinant, octet_items, octet_writers}
use Rattle.per_pieces.specs.Pieces.{Appends, Pieces, with_bits}
use Rattle.per_pieces.proofs.Placed.{appends_bits, appends_same, appends_then}
use Rattle.per_pieces.proofs.Writing.{then_same}
use Rattle.per_pieces.proofs.Fragments.{fragments_of_few, in_their_fragments, octets_one_by_one, length-octet_writers}

-- X.691 11.3.6: the octets of a number by its width
pub octets_by_width : (n w k : ℕ) → w ≡ width (n + 1) → k ≡ max (w / 8 + min 1 (w % 8)) 1 → k ≡ octets_of_natural n
unfolding octets_of_natural
octets_by_width n w k e d = d ∙ (omega arith) ∙ ap (λ (v : ℕ). max 1 ((v + 7) / 8)) e

-- X.691 11.5.6: the unaligned variant
pub appends_unaligned : (a : Variant) (x y : Pieces) (m o w : ℕ) → a ≡ unaligned → w ≡ width (m + 1) → o ≤ m → y ≡ with_bits x (to_bits w o) → Appends x (constrained_whole a (m + 1) o) y
unfolding constrained_whole
appends_unaligned a x y m o w v i h e =
    subst (λ (b : Variant). Appends x (constrained_whole b (m + 1) o) y) (sym v)
    (
    appends_same x y (just (to_bits (width (m + 1)) o)) (constrained_whole unaligned (m + 1) o)
    (λ p. ap (λ (b : Bool). written_if b (just (to_bits (width (m + 1)) o)) p) (sym (lt-ltb o (m + 1) (omega arith))))
    (appends_bits x y _ (e ∙ ap (λ (k : ℕ). with_bits x (to_bits k o)) i)))

-- a number of the aligned variant, by the tests of how many numbers there are
by_tests : (n o : ℕ) (few octet two : Bool) → o < n → leb n 255 ≡ few → eqb n 256 ≡ octet → leb n 65536 ≡ two → (p : ℕ) →
    cond few (just (to_bits (width n) o))
    (cond octet (padding aligned ▹ just (to_bits 8 o))
    (cond two (padding aligned ▹ just (to_bits 16 o))
    (just (to_bits (width ((width n + 7) / 8)) (octets_of_natural o - 1)) ▹ padding aligned ▹ just (natural_bits o)))) p ≡ constrained_whole aligned n o p
unfolding constrained_whole
by_tests n o few octet two h e f g p = sym (rw (lt-ltb o n h, e, f, g) refl)

-- X.691 11.5.7.1: of 255 numbers or fewer
pub appends_few : (x y : Pieces) (m o w : ℕ) → w ≡ width (m + 1) → o ≤ m → m < 255 → y ≡ with_bits x (to_bits w o) → Appends x (constrained_whole aligned (m + 1) o) y
appends_few x y m o w i h l e =
    appends_same x y (just (to_bits (width (m + 1)) o)) (constrained_whole aligned (m + 1) o)
    (by_tests (m + 1) o true (eqb (m + 1) 256) (leb (m + 1) 65536) (omega arith) (le-leb (m + 1) 255 (omega arith)) refl refl)
    (appends_bits x y _ (e ∙ ap (λ (k : ℕ). with_bits x (to_bits k o)) i))

-- X.691 11.5.7.2: of 256 numbers
pub appends_octet : (x y : Pieces) (m o : ℕ) → o ≤ m → m ≡ 255 → Appends x (padding aligned ▹ just (to_bits 8 o)) y → Appends x (constrained_whole aligned (m + 1) o) y
appends_octet x y m o h l k =
    appends_same x y (padding aligned ▹ just (to_bits 8 o)) (constrained_whole aligned (m + 1) o)
    (by_tests (m + 1) o false true (leb (m + 1) 65536) (omega arith) (lt-leb (m + 1) 255 (omega arith)) (ap (λ (n : ℕ). eqb (n + 1) 256) l) refl)
    k

not_256 : (n : ℕ) → 256 < n → eqb n 256 ≡ false
not_256 n h = ne_eqb n 256 (λ e. absurd (omega arith))

-- X.691 11.5.7.3: of 65536 numbers or fewer
pub appends_two : (x y : Pieces) (m o : ℕ) → o ≤ m → 255 < m → m < 65536 → Appends x (padding aligned ▹ just (to_bits 16 o)) y → Appends x (constrained_whole aligned (m + 1) o) y
appends_two x y m o h l u k =
    appends_same x y (padding aligned ▹ just (to_bits 16 o)) (constrained_whole aligned (m + 1) o)
    (by_tests (m + 1) o false false true (omega arith) (lt-leb (m + 1) 255 (omega arith)) (not_256 (m + 1) (omega arith)) (le-leb (m + 1) 65536 (omega arith)))
    k

-- the octets of the greatest of many numbers are those of their width
octets_of_last : (m : ℕ) → 0 < m → octets_of_natural m ≡ (width (m + 1) + 7) / 8
unfolding octets_of_natural
octets_of_last m h = go (width (m + 1)) refl (width_holds (m + 1))
  where
    go : (w : ℕ) → w ≡ width (m + 1) → m + 1 ≤ 2 ^ width (m + 1) → max 1 ((width (m + 1) + 7) / 8) ≡ (width (m + 1) + 7) / 8
    go zero e l = absurd (let k : m + 1 ≤ 2 ^ 0 = subst (λ (w : ℕ). m + 1 ≤ 2 ^ w) (sym e) l in omega arith)
    go (suc w) e l = omega arith

-- X.691 11.5.7.4: of more, in the fewest octets after their count
pub appends_many : (x y z : Pieces) (m o w n : ℕ) → n ≡ octets_of_natural o → w ≡ width (octets_of_natural m) → o ≤ m → 65536 ≤ m → y ≡ with_bits x (to_bits w (n - 1)) →
    Appends y (padding aligned ▹ just (to_bits (8 * n) o)) z → Appends x (constrained_whole aligned (m + 1) o) z
unfolding natural_bits
appends_many x y z m o w n i e h l d k =
    appends_same x z (just (to_bits (width ((width (m + 1) + 7) / 8)) (octets_of_natural o - 1)) ▹ padding aligned ▹ just (natural_bits o)) (constrained_whole aligned (m + 1) o)
    (by_tests (m + 1) o false false false (omega arith) (lt-leb (m + 1) 255 (omega arith)) (not_256 (m + 1) (omega arith)) (lt-leb (m + 1) 65536 (omega arith)))
    (appends_then x y z (just (to_bits (width ((width (m + 1) + 7) / 8)) (octets_of_natural o - 1))) (padding aligned ▹ just (natural_bits o))
    (appends_bits x y _ (d ∙ ap (λ (q : ℕ). with_bits x (to_bits w (q - 1))) i ∙ ap (λ (v : ℕ). with_bits x (to_bits v (octets_of_natural o - 1))) (e ∙ ap width (octets_of_last m (omega arith)))))
    (subst (λ (q : ℕ). Appends y (padding aligned ▹ just (to_bits (8 * q) o)) z) i k))

are_octets : (os : List ℕ) → AreOctets os → (k : ℕ) → get_or os k 0 < 256
are_octets [] h k = omega arith
are_octets (o ∷ os) h zero = h.0
are_octets (o ∷ os) h (suc k) = are_octets os h.1 k

-- X.691 11.9.3.5: whole octets, given as bits, after their count
pub appends_counted : (a : Variant) (x z : Pieces) (all : Bits) (k : ℕ) → length all ≡ 8 * k → k ≤ 16 →
    Appends x ((padding a ▹ just (determinant k)) ▹ just all) z → Appends x (counted_octets a all) z
unfolding counted_octets
appends_counted a x z all k wide l p = appends_same x z ((padding a ▹ just (determinant k)) ▹ just all) (counted_octets a all) same p
  where
    octets : List ℕ
    octets = pack (length all / 8) all

    counted : length (octet_writers octets) ≡ k
    counted = length-octet_writers octets ∙ length-pack (length all / 8) all ∙ omega (arith, wide)

    bits : unpack octets ≡ all
    bits = unpack-pack (length all / 8) all (omega (arith, wide))

    of_octets : (q : ℕ) → just all q ≡ one_by_one (octet_writers octets) q
    of_octets q = ap Some (sym bits) ∙ sym (octets_one_by_one octets (are_octets octets (octets-pack (length all / 8) all)) q)

    same : (q : ℕ) → ((padding a ▹ just (determinant k)) ▹ just all) q ≡ counted_octets a all q
    same q = then_same (padding a ▹ just (determinant k)) (padding a ▹ just (determinant (length (octet_writers octets)))) (just all) (one_by_one (octet_writers octets))
        (λ r. ap (λ (n : ℕ). (padding a ▹ just (determinant n)) r) (sym counted)) of_octets q
        ∙ sym (fragments_of_few a (octet_writers octets) (omega (arith, counted)) q)
        ∙ in_their_fragments a octet_items (octet_writers octets) (omega (arith, counted)) q

-- X.691 11.7: the fewest octets without sign after their count
pub appends_natural : (a : Variant) (x z : Pieces) (o k : ℕ) → k ≡ octets_of_natural o → k ≤ 16 →
    Appends x ((padding a ▹ just (determinant k)) ▹ just (to_bits (8 * k) o)) z → Appends x (counted_octets a (natural_bits o)) z
unfolding natural_bits
appends_natural a x z o k e l p =
    appends_counted a x z (natural_bits o) k (length-to_bits (8 * octets_of_natural o) o ∙ ap (λ (n : ℕ). 8 * n) (sym e)) l
    (subst (λ (n : ℕ). Appends x ((padding a ▹ just (determinant k)) ▹ just (to_bits (8 * n) o)) z) e p)
