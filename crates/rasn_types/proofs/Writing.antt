-- Subidentifiers as they are written.
use Rattle.std.proofs.Common.{◌≡◌, ◌≢◌, refl, sym, ap, ap₂, ◌∙◌, ℕ, zero, suc, ◌+◌, ◌*◌, ◌/◌, ◌%◌, ◌^◌, ◌<◌, ◌≤◌, ◌⊎◌, inl, inr, Bool, true, false, ◌&&◌, ◌||◌, eqb, ltb, List, [], ◌∷◌, ◌++◌, length, take, get_or, Fits, w32, arith, append_assoc, lt-ltb}
use Rattle.std.specs.List.{list_all}
use borrow.Author.Tests.{ltb-true}
use Rattle.std.proofs.lemmas.Bool.{ne_eqb, le-ltb}
use Rattle.rasn_types.specs.Identifiers.{leading_octets, subidentifier, subidentifiers, are_arcs, contents, IsFirstSubidentifier}

pub leading_octets-zero : (most : ℕ) → leading_octets most 0 ≡ []
unfolding leading_octets
leading_octets-zero zero = refl
leading_octets-zero (suc most) = refl

-- more room adds no octet
pub leading_octets-more : (f g n : ℕ) → n ≤ f → n ≤ g → leading_octets f n ≡ leading_octets g n
unfolding leading_octets
leading_octets-more f g zero h k = leading_octets-zero f ∙ sym (leading_octets-zero g)
leading_octets-more zero g (suc n) h k = absurd (omega arith)
leading_octets-more (suc f) zero (suc n) h k = absurd (omega arith)
leading_octets-more (suc f) (suc g) (suc n) h k = rw (ne_eqb (suc n) 0 (λ e. omega arith)) (ap (λ xs. xs ++ (128 + suc n % 128) ∷ []) (leading_octets-more f g (suc n / 128) (omega arith) (omega arith)))

pub leading_octets-step : (n : ℕ) → n ≢ 0 → leading_octets n n ≡ leading_octets (n / 128) (n / 128) ++ (128 + n % 128) ∷ []
unfolding leading_octets
leading_octets-step zero h = absurd (h refl)
leading_octets-step (suc n) h = rw (ne_eqb (suc n) 0 (λ e. omega arith)) (ap (λ xs. xs ++ (128 + suc n % 128) ∷ []) (leading_octets-more n (suc n / 128) (suc n / 128) (omega arith) (omega arith)))

pub subidentifier-is : (n : ℕ) → subidentifier n ≡ leading_octets (n / 128) (n / 128) ++ n % 128 ∷ []
unfolding subidentifier
subidentifier-is n = ap (λ xs. xs ++ n % 128 ∷ []) (leading_octets-more n (n / 128) (n / 128) (omega arith) (omega arith))

-- what begins with a list still does when more is put after it
pub kept-append : (a s t : List ℕ) → take (length a) s ≡ a → take (length a) (s ++ t) ≡ a
kept-append [] s t h = refl
kept-append (x ∷ a) [] t h = absurd (cc)
kept-append (x ∷ a) (y ∷ s) t h = let e : take (length a) s ≡ a = cc in let d : take (length a) (s ++ t) ≡ a = kept-append a s t e in let f : y ≡ x = cc in cc

pub kept-kept : (a m s : List ℕ) → take (length a) m ≡ a → take (length m) s ≡ m → take (length a) s ≡ a
kept-kept [] m s h k = refl
kept-kept (x ∷ a) [] s h k = absurd (cc)
kept-kept (x ∷ a) (y ∷ m) [] h k = absurd (cc)
kept-kept (x ∷ a) (y ∷ m) (z ∷ s) h k = let e : take (length a) m ≡ a = cc in let g : take (length m) s ≡ m = cc in let d : take (length a) s ≡ a = kept-kept a m s e g in let f : z ≡ x = cc in cc

-- one octet more of those that others follow
pub written-on : (old mid new : List ℕ) (n : ℕ) → n ≢ 0 → mid ≡ old ++ leading_octets (n / 128) (n / 128) → new ≡ mid ++ (128 + n % 128) ∷ [] → new ≡ old ++ leading_octets n n
written-on old mid new n h e f = f ∙ ap (λ xs. xs ++ (128 + n % 128) ∷ []) e ∙ append_assoc old _ _ ∙ ap (λ xs. old ++ xs) (sym (leading_octets-step n h))

-- the last octet
pub written-last : (old mid new : List ℕ) (n : ℕ) → mid ≡ old ++ leading_octets (n / 128) (n / 128) → new ≡ mid ++ n % 128 ∷ [] → new ≡ old ++ subidentifier n
written-last old mid new n e f = f ∙ ap (λ xs. xs ++ n % 128 ∷ []) e ∙ append_assoc old _ _ ∙ ap (λ xs. old ++ xs) (sym (subidentifier-is n))

-- all numbers of 32 bits are below 2 ^ 32
pub list_all-fits : (arcs : List ℕ) → ((i : ℕ) → Fits w32 (get_or arcs i 0)) → list_all (λ arc. ltb arc (2 ^ 32)) arcs ≡ true
list_all-fits [] h = refl
list_all-fits (arc ∷ arcs) h = rw (lt-ltb arc (2 ^ 32) (let f : Fits w32 arc = h 0 in f.fits), list_all-fits arcs (λ i. h (suc i))) refl

-- the first arc is 2, or it is below 2 and the second below 40
pub first-is : (arcs : List ℕ) (a b : ℕ) → 2 ≤ length arcs → a ≡ get_or arcs 0 0 → b ≡ get_or arcs 1 0 → ((i : ℕ) → Fits w32 (get_or arcs i 0)) →
    (get_or arcs 0 0 ≡ 2) ⊎ ((get_or arcs 0 0 < 2) × (get_or arcs 1 0 < 40)) → IsFirstSubidentifier arcs (40 * a + b)
unfolding contents
first-is [] a b h e f w s = absurd (omega arith)
first-is (x ∷ []) a b h e f w s = absurd (omega arith)
first-is (x ∷ y ∷ zs) a b h e f w s = record { lawful = lawful; enough = h; written = rw lawful (ap₂ (λ (m n : ℕ). subidentifiers ((40 * m + n) ∷ zs)) (sym e) (sym f)) }
  where
    root : (s : (x ≡ 2) ⊎ ((x < 2) × (y < 40))) → (eqb x 2 || (ltb x 2 && ltb y 40)) ≡ true
    root (inl e) = rw e refl
    root (inr l) = rw (ne_eqb x 2 (λ e. let k = l.0 in omega arith), lt-ltb x 2 l.0, lt-ltb y 40 l.1) refl

    lawful : are_arcs (x ∷ y ∷ zs) ≡ true
    lawful = rw (root s, list_all-fits (y ∷ zs) (λ i. w (suc i))) refl

-- no other arcs are an object's
pub first-none : (arcs : List ℕ) → (2 ≤ length arcs → (get_or arcs 0 0 ≢ 2) × (get_or arcs 0 0 < 2 → 40 ≤ get_or arcs 1 0)) → are_arcs arcs ≡ false
first-none [] h = refl
first-none (x ∷ []) h = refl
first-none (x ∷ y ∷ zs) h = let k = h (omega arith) in rw (ne_eqb x 2 k.0) (small (ltb x 2) refl k.1)
  where
    small : (b : Bool) → ltb x 2 ≡ b → (x < 2 → 40 ≤ y) → ((b && ltb y 40) && list_all (λ arc. ltb arc (2 ^ 32)) (y ∷ zs)) ≡ false
    small true e k = rw (le-ltb y 40 (k (ltb-true x 2 e))) refl
    small false e k = refl
