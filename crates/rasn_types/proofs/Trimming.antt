-- Bits without the zero bits at their end.
use Rattle.std.proofs.Common.{◌≡◌, refl, sym, ap, ◌∙◌, ℕ, zero, suc, ◌+◌, ◌-◌, ◌*◌, ◌/◌, ◌<◌, ◌≤◌, max, Bool, true, false, List, [], ◌∷◌, ◌++◌, length, take, replicate, arith, length-append, append_assoc, append-nil, length-take, get_or}
use Rattle.std.proofs.Math.Seq.{take-append_seam}
use Rattle.std.proofs.lemmas.List.{length-replicate, replicate_more, take-take}
use Rattle.rasn_types.specs.Bits.{Bits, unpack, filled_up, trimmed, unless_zeros}
use Rattle.rasn_types.specs.Packed.{packed}
use Rattle.rasn_types.proofs.Octets.{length-pack}

no_bits : (n : ℕ) → trimmed (replicate n false) ≡ []
no_bits zero = refl
no_bits (suc n) = ap (unless_zeros false) (no_bits n)

-- zero bits after bits are trimmed away
pub trimmed-zeros : (bs : Bits) (n : ℕ) → trimmed (bs ++ replicate n false) ≡ trimmed bs
trimmed-zeros [] n = no_bits n
trimmed-zeros (b ∷ bs) n = ap (unless_zeros b) (trimmed-zeros bs n)

before_one : (b : Bool) (bs : Bits) → unless_zeros b (bs ++ true ∷ []) ≡ b ∷ (bs ++ true ∷ [])
before_one true bs = refl
before_one false [] = refl
before_one false (c ∷ cs) = refl

-- bits that end with a one stay
pub trimmed-one : (bs : Bits) → trimmed (bs ++ true ∷ []) ≡ bs ++ true ∷ []
trimmed-one [] = refl
trimmed-one (b ∷ bs) = ap (unless_zeros b) (trimmed-one bs) ∙ before_one b bs

split_on : (b : Bool) (ts bs : Bits) (n : ℕ) → bs ≡ ts ++ replicate n false → (m : ℕ) × (b ∷ bs ≡ unless_zeros b ts ++ replicate m false)
split_on true ts bs n e = (n, ap (λ cs. true ∷ cs) e)
split_on false [] bs n e = (suc n, ap (λ cs. false ∷ cs) e)
split_on false (c ∷ cs) bs n e = (n, ap (λ ds. false ∷ ds) e)

-- bits are the trimmed ones with zero bits after them
pub trimmed-split : (bs : Bits) → (n : ℕ) × (bs ≡ trimmed bs ++ replicate n false)
trimmed-split [] = (0, refl)
trimmed-split (b ∷ bs) = let r = trimmed-split bs in split_on b (trimmed bs) bs r.0 r.1

pub trimmed-trimmed : (bs : Bits) → trimmed (trimmed bs) ≡ trimmed bs
trimmed-trimmed bs = let r = trimmed-split bs in sym (ap trimmed r.1 ∙ trimmed-zeros (trimmed bs) r.0)

pub trimmed-filled : (n : ℕ) (bs : Bits) → trimmed (filled_up n (trimmed bs)) ≡ trimmed bs
trimmed-filled n bs = trimmed-zeros (trimmed bs) (n - length (trimmed bs)) ∙ trimmed-trimmed bs

pub trimmed-few : (bs : Bits) → length (trimmed bs) ≤ length bs
trimmed-few bs = let r = trimmed-split bs in
    let e : length bs ≡ length (trimmed bs) + length (replicate r.0 false) = ap length r.1 ∙ length-append (trimmed bs) (replicate r.0 false) in
    omega arith

pub length-filled : (n : ℕ) (bs : Bits) → length (filled_up n bs) ≡ length bs + (n - length bs)
length-filled n bs = length-append bs (replicate (n - length bs) false) ∙ ap (λ (m : ℕ). length bs + m) (length-replicate (n - length bs) false)

taken_next : (n : ℕ) (bs : Bits) → n < length bs → take (suc n) bs ≡ take n bs ++ get_or bs n false ∷ []
taken_next n [] h = absurd (omega arith)
taken_next zero (b ∷ bs) h = refl
taken_next (suc n) (b ∷ bs) h = ap (λ cs. b ∷ cs) (taken_next n bs (omega arith))

-- the first of some bits up to one that is a bit further
pub taken_before : (n : ℕ) (bs : Bits) (b : Bool) → 0 < n → n ≤ length bs → b ≡ get_or bs (n - 1) false → take n bs ≡ take (n - 1) bs ++ b ∷ []
taken_before n bs b s h e = ap (λ (m : ℕ). take m bs) (let i : n ≡ suc (n - 1) = omega arith in i) ∙ taken_next (n - 1) bs (omega arith) ∙ ap (λ c. take (n - 1) bs ++ c ∷ []) (sym e)

-- a zero bit at the end is passed over
pub zero_passed : (n : ℕ) (bs : Bits) (b : Bool) → 0 < n → n ≤ length bs → b ≡ get_or bs (n - 1) false → b ≡ false → trimmed (take n bs) ≡ trimmed bs → trimmed (take (n - 1) bs) ≡ trimmed bs
zero_passed n bs b s h e z k = sym (ap trimmed (taken_before n bs b s h e ∙ ap (λ c. take (n - 1) bs ++ c ∷ []) z) ∙ trimmed-zeros (take (n - 1) bs) 1) ∙ k

-- the walk stops after a bit that is one
pub one_stops : (n : ℕ) (bs : Bits) (b : Bool) → 0 < n → n ≤ length bs → b ≡ get_or bs (n - 1) false → b ≡ true → trimmed (take n bs) ≡ trimmed bs → n ≡ length (trimmed bs)
one_stops n bs b s h e o k =
    let t : take n bs ≡ take (n - 1) bs ++ true ∷ [] = taken_before n bs b s h e ∙ ap (λ c. take (n - 1) bs ++ c ∷ []) o in
    let r : trimmed bs ≡ take n bs = sym k ∙ ap trimmed t ∙ trimmed-one (take (n - 1) bs) ∙ sym t in
    let l : length (trimmed bs) ≡ length (take n bs) = ap length r in
    omega (arith, length-take n bs)

-- or where no bit is left
pub none_left : (n : ℕ) (bs : Bits) → n ≡ 0 → trimmed (take n bs) ≡ trimmed bs → n ≡ length (trimmed bs)
none_left n bs z k = z ∙ ap length (ap (λ (m : ℕ). trimmed (take m bs)) (sym z) ∙ k)

-- the trimmed bits are the first ones
pub trimmed-front : (bs : Bits) → take (length (trimmed bs)) bs ≡ trimmed bs
trimmed-front bs = let r = trimmed-split bs in ap (λ cs. take (length (trimmed bs)) cs) r.1 ∙ take-append_seam (trimmed bs) (replicate r.0 false)

-- ---- bits filled up one by one

-- the trimmed bits are in the octets
pub packed_enough : (n : ℕ) (bs : Bits) (os : List ℕ) → n ≡ length (trimmed bs) → os ≡ packed bs → n ≤ 8 * length os
packed_enough n bs os e h =
    let l : length os ≡ (length bs + 7) / 8 = ap length h ∙ length-pack ((length bs + 7) / 8) bs in
    omega (arith, trimmed-few bs)

pub filled_first : (n : ℕ) (bs ks : Bits) (os : List ℕ) → n ≡ length (trimmed bs) → take (length bs) (unpack os) ≡ bs → ks ≡ take n (unpack os) → ks ≡ trimmed bs ++ replicate (n - length (trimmed bs)) false
filled_first n bs ks os e h k =
    let z : n - length (trimmed bs) ≡ 0 = omega arith in
    let f : n ≤ length bs = omega (arith, trimmed-few bs) in
    k ∙ sym (take-take n (length bs) (unpack os) f) ∙ ap (λ cs. take n cs) h ∙ ap (λ (m : ℕ). take m bs) e ∙ trimmed-front bs
    ∙ sym (append-nil (trimmed bs)) ∙ ap (λ (m : ℕ). trimmed bs ++ replicate m false) (sym z)

filled_length : (n : ℕ) (ts ks : Bits) → length ts ≤ n → ks ≡ ts ++ replicate (n - length ts) false → length ks ≡ n
filled_length n ts ks h e =
    let l : length ks ≡ length ts + (n - length ts) = ap length e ∙ length-append ts (replicate (n - length ts) false) ∙ ap (λ (m : ℕ). length ts + m) (length-replicate (n - length ts) false) in
    omega arith

pub filled_few : (n m : ℕ) (ts ks : Bits) → length ts ≤ n → n < m → ks ≡ ts ++ replicate (n - length ts) false → length ks < m
filled_few n m ts ks h l e = let i = filled_length n ts ks h e in omega arith

pub filled_next : (n : ℕ) (ts ks js : Bits) → length ts ≤ n → ks ≡ ts ++ replicate (n - length ts) false → js ≡ ks ++ false ∷ [] → js ≡ ts ++ replicate (n + 1 - length ts) false
filled_next n ts ks js h e k =
    let i : n - length ts + 1 ≡ n + 1 - length ts = omega arith in
    k ∙ ap (λ cs. cs ++ false ∷ []) e ∙ append_assoc ts (replicate (n - length ts) false) (false ∷ []) ∙ ap (λ cs. ts ++ cs) (replicate_more (n - length ts) false) ∙ ap (λ (m : ℕ). ts ++ replicate m false) i

pub filled_last : (n m l : ℕ) (ts ks : Bits) → l ≡ length ts → l ≤ n → m ≤ n → n ≤ max l m → ks ≡ ts ++ replicate (n - length ts) false → ks ≡ filled_up m ts
filled_last n m l ts ks a h k x e = e ∙ ap (λ (i : ℕ). ts ++ replicate i false) (let i : n - length ts ≡ m - length ts = omega arith in i)
