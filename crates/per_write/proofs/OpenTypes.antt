-- Open types one after another: after padding they are the same wherever they stand (ITU-T X.691, 11.2, 19.9).
use Rattle.std.proofs.Common.{◌≡◌, refl, sym, ap, ◌∙◌, subst, ℕ, ◌/◌, ◌%◌, ◌*◌, ◌^◌, Bool, true, false, List, [], ◌∷◌, ◌++◌, length, take, drop, replicate, Option, Some, None, arith}
use Rattle.std.specs.Prelude.{nat_lt}
use Rattle.std.proofs.lemmas.List.{drop-map, take-map, length-replicate}
use Rattle.rasn_types.specs.Bits.{Bits, to_bits}
use Rattle.rasn_types.specs.Values.{Value}
use Rattle.rasn_types.specs.Variants.{Variant, aligned, unaligned}
use Rattle.per_core.proofs.Presenting.{some_both}
use Rattle.per_core.specs.Canon.{Member, any_set, bitmap_of, opens_of, shown}
use Rattle.per_core.specs.Counts.{determinant, fragment_sizes, in_fragments, octet_writers, open_bits, unless_zero}
use Rattle.per_core.specs.Writers.{Writer, after, complete, go_on, join, just, one_by_one, pad, padding, refused, written_if, ◌▹◌}
use Rattle.rasn_schema.specs.Schemas.{Presence, required, optional, group, default}
use Rattle.per_pieces.proofs.Writing.{then_assoc, then_same}

-- what is written is the same wherever it begins
abbrev pub IsStill : Writer → Type 0
IsStill w = (p q : ℕ) → w p ≡ w q

pub still_then : (f g : Writer) → IsStill f → IsStill g → IsStill (f ▹ g)
still_then f g h k p q = ap (λ o. go_on o g p) (h p q) ∙ go (f q)
  where
    go : (o : Option Bits) → go_on o g p ≡ go_on o g q
    go None = refl
    go (Some b) = ap (join b) (k (after p b) (after q b))

still_if : (b : Bool) (w : Writer) → IsStill w → IsStill (written_if b w)
still_if true w h p q = h p q
still_if false w h p q = refl

octets_still : (os : List ℕ) → IsStill (one_by_one (octet_writers os))
octets_still [] p q = refl
octets_still (o ∷ os) p q = still_then (written_if (nat_lt o 256) (just (to_bits 8 o))) (one_by_one (octet_writers os)) (still_if (nat_lt o 256) (just (to_bits 8 o)) (λ p q. refl)) (octets_still os) p q

fragments_still : (ms os : List ℕ) → IsStill (in_fragments unaligned ms (octet_writers os))
fragments_still [] os p q = refl
fragments_still (m ∷ ms) os p q =
    let items = one_by_one (take m (octet_writers os)) in
    let rest = in_fragments unaligned ms (drop m (octet_writers os)) in
    still_then (padding unaligned) (just (determinant m) ▹ items ▹ rest) (λ p q. refl)
    (still_then (just (determinant m)) (items ▹ rest) (λ p q. refl)
    (still_then items rest
    (subst (λ (ws : List Writer). IsStill (one_by_one ws)) (sym (take-map _ m os)) (octets_still (take m os)))
    (subst (λ (ws : List Writer). IsStill (in_fragments unaligned ms ws)) (sym (drop-map _ m os)) (fragments_still ms (drop m os))))) p q

-- X.691 11.2: an open type of the unaligned variant
open_still : (o : Option Bits) → IsStill (open_bits unaligned o)
unfolding open_bits
open_still None p q = refl
open_still (Some c) p q = still_if (nat_lt (length (octet_writers (complete c))) (2 ^ 64)) (in_fragments unaligned (fragment_sizes (length (octet_writers (complete c)))) (octet_writers (complete c))) (fragments_still (fragment_sizes (length (octet_writers (complete c)))) (complete c)) p q

opens_still : (ms : List Member) (ss : List (Option Value)) (bs : Bits) → IsStill (opens_of unaligned ms ss bs)
opens_still [] ss bs p q = refl
opens_still (m ∷ ms) [] bs p q = refl
opens_still (m ∷ ms) (None ∷ ss) [] p q = refl
opens_still (m ∷ ms) (Some v ∷ ss) [] p q = refl
opens_still (m ∷ ms) (Some v ∷ ss) (true ∷ bs) p q = still_then (open_bits unaligned (m.writes v 0)) (opens_of unaligned ms ss bs) (open_still (m.writes v 0)) (opens_still ms ss bs) p q
opens_still (m ∷ ms) (None ∷ ss) (true ∷ bs) p q = opens_still ms ss bs p q
opens_still (m ∷ ms) (None ∷ ss) (false ∷ bs) p q = opens_still ms ss bs p q
opens_still (m ∷ ms) (Some v ∷ ss) (false ∷ bs) p q = opens_still ms ss bs p q

-- what is written begins with padding
record IsPadded (w : Writer) : Type 0 where
  behind : Writer
  is_padded : (p : ℕ) → w p ≡ (padding aligned ▹ behind) p

padded_then : (w g : Writer) → IsPadded w → IsPadded (w ▹ g)
padded_then w g h = record {
  behind = h.behind ▹ g;
  is_padded = λ p. then_same w (padding aligned ▹ h.behind) g g h.is_padded (λ q. refl) p ∙ sym (then_assoc (padding aligned) h.behind g p);
}

padded_same : (w v : Writer) → ((p : ℕ) → w p ≡ v p) → IsPadded v → IsPadded w
padded_same w v e h = record { behind = h.behind; is_padded = λ p. e p ∙ h.is_padded p }

some_size : (xs ys : List ℕ) (z : ℕ) → (m : ℕ) × (ms : List ℕ) × (xs ++ (ys ++ z ∷ []) ≡ m ∷ ms)
some_size [] [] z = (z, [], refl)
some_size [] (y ∷ ys) z = (y, ys ++ z ∷ [], refl)
some_size (x ∷ xs) ys z = (x, xs ++ (ys ++ z ∷ []), refl)

fragments_padded : (n : ℕ) (ws : List Writer) → IsPadded (in_fragments aligned (fragment_sizes n) ws)
fragments_padded n ws =
    let s = some_size (replicate (n / 65536) 65536) (unless_zero (n % 65536 / 16384 * 16384)) (n % 16384) in
    padded_same (in_fragments aligned (fragment_sizes n) ws) (in_fragments aligned (s.0 ∷ s.1) ws) (λ p. ap (λ (ms : List ℕ). in_fragments aligned ms ws p) s.2)
    (record { behind = just (determinant s.0) ▹ one_by_one (take s.0 ws) ▹ in_fragments aligned s.1 (drop s.0 ws); is_padded = λ p. refl })

padded_if : (b : Bool) (w : Writer) → IsPadded w → IsPadded (written_if b w)
padded_if true w h = h
padded_if false w h = record { behind = refused; is_padded = λ p. refl }

-- X.691 11.2: an open type of the aligned variant
open_padded : (o : Option Bits) → IsPadded (open_bits aligned o)
unfolding open_bits
open_padded None = record { behind = refused; is_padded = λ p. refl }
open_padded (Some c) = padded_if (nat_lt (length (octet_writers (complete c))) (2 ^ 64)) (in_fragments aligned (fragment_sizes (length (octet_writers (complete c)))) (octet_writers (complete c))) (fragments_padded (length (octet_writers (complete c))) (octet_writers (complete c)))

-- an addition that is there has a value
value_shown : (q : Presence) (s : Option Value) → shown q s ≡ Some true → (v : Value) × (s ≡ Some v)
unfolding shown
value_shown required None e = absurd cc
value_shown optional None e = absurd cc
value_shown group None e = absurd cc
value_shown (default d) None e = absurd cc
value_shown q (Some v) e = (v, refl)

-- one addition and those after it
one_padded : (m : Member) (ms : List Member) (ss : List (Option Value)) (b : Bool) (cs : Bits) (s : Option Value) → shown m.presence s ≡ Some b → any_set (b ∷ cs) ≡ true → (any_set cs ≡ true → IsPadded (opens_of aligned ms ss cs)) →
    IsPadded (opens_of aligned (m ∷ ms) (s ∷ ss) (b ∷ cs))
one_padded m ms ss true cs (Some v) h u k = padded_then (open_bits aligned (m.writes v 0)) (opens_of aligned ms ss cs) (open_padded (m.writes v 0))
one_padded m ms ss true cs None h u k = let v = value_shown m.presence None h in absurd (let n = v.1 in cc)
one_padded m ms ss false cs (Some v) h u k = k u
one_padded m ms ss false cs None h u k = k u

opens_padded : (ms : List Member) (ss : List (Option Value)) (bs : Bits) → bitmap_of ms ss ≡ Some bs → any_set bs ≡ true → IsPadded (opens_of aligned ms ss bs)
unfolding bitmap_of
opens_padded [] [] bs e t = let n : [] ≡ bs = cc in absurd (let u : any_set [] ≡ true = ap any_set n ∙ t in cc)
opens_padded [] (s ∷ ss) bs e t = absurd cc
opens_padded (m ∷ ms) [] bs e t = absurd cc
opens_padded (m ∷ ms) (s ∷ ss) bs e t =
    let q = some_both (shown m.presence s) (bitmap_of ms ss) bs e in
    subst (λ (cs : Bits). IsPadded (opens_of aligned (m ∷ ms) (s ∷ ss) cs)) (sym q.4) (one_padded m ms ss q.0 q.1 s q.2 (ap any_set (sym q.4) ∙ t) (λ u. opens_padded ms ss q.1 q.3 u))

join_nothing : (o : Option Bits) → join [] o ≡ o
join_nothing None = refl
join_nothing (Some b) = refl

-- after padding an octet begins
on_octet : (g : Writer) (p : ℕ) → (padding aligned ▹ g) p ≡ join (replicate (pad aligned p) false) (g 0)
on_octet g p = ap (λ (n : ℕ). join (replicate (pad aligned p) false) (g n)) (let e : after p (replicate (pad aligned p) false) ≡ 0 = omega (arith, length-replicate (pad aligned p) false) in e)

-- X.691 19.9: open types that were written from position 0 on stand after padding at any place
pub opens_at : (a : Variant) (ms : List Member) (ss : List (Option Value)) (bs os : Bits) → bitmap_of ms ss ≡ Some bs → any_set bs ≡ true → opens_of a ms ss bs 0 ≡ Some os → (p : ℕ) →
    opens_of a ms ss bs p ≡ (padding a ▹ just os) p
opens_at unaligned ms ss bs os e t w p = opens_still ms ss bs p 0 ∙ w
opens_at aligned ms ss bs os e t w p =
    let h = opens_padded ms ss bs e t in
    let behind : h.behind 0 ≡ Some os = sym (join_nothing (h.behind 0)) ∙ sym (on_octet h.behind 0) ∙ sym (h.is_padded 0) ∙ w in
    h.is_padded p ∙ on_octet h.behind p ∙ ap (join (replicate (pad aligned p) false)) behind
