-- Strings of a type's own characters.
use Rattle.std.proofs.Common.{◌≡◌, refl, ◌∙◌, ℕ, zero, suc, ◌≤◌, true, nat_lt, eqb, List, [], ◌∷◌, ◌++◌, get_or, slice_get, IfSome, Fits, w16, arith, inl, inr}
use Rattle.std.specs.Str.{IsAscii}
use Rattle.std.proofs.lemmas.Bool.{eqb-true, and_parts, and_from, or_cases, le-leb, lt-ltb, ltb-true}
use Rattle.rasn_types.specs.Alphabets.{has, has_all, interval_of, greatest, visible, ia5, printable, numeric, bmp}
use Rattle.rasn_strings.specs.Intervals.{expand}
use Rattle.rasn_strings.proofs.IntervalsOf.{has-interval_of}

-- the intervals of each type have its characters
pub expand-visible : expand (record { first = 32; last = 126 } ∷ []) ≡ visible
unfolding interval_of
expand-visible = refl

pub expand-ia5 : expand (record { first = 0; last = 127 } ∷ []) ≡ ia5
unfolding interval_of
expand-ia5 = refl

pub expand-printable : expand (record { first = 32; last = 32 } ∷ record { first = 39; last = 41 } ∷ record { first = 43; last = 58 } ∷ record { first = 61; last = 61 } ∷ record { first = 63; last = 63 } ∷ record { first = 65; last = 90 } ∷ record { first = 97; last = 122 } ∷ []) ≡ printable
unfolding interval_of
expand-printable = refl

pub expand-numeric : expand (record { first = 32; last = 32 } ∷ record { first = 48; last = 57 } ∷ []) ≡ numeric
unfolding interval_of
expand-numeric = refl

-- a character of a list is at most its greatest
pub has_below : (xs : List ℕ) (c : ℕ) → has xs c ≡ true → c ≤ greatest xs
has_below [] c e = absurd (cc)
has_below (x ∷ xs) c e = elim (or_cases (eqb x c) (has xs c) e) [
  | inl h ↦ let s = eqb-true x c h in omega arith
  | inr h ↦ let s = has_below xs c h in omega arith
]

-- one character more
pub own_push : (own cs : List ℕ) (c : ℕ) → has_all own cs ≡ true → has own c ≡ true → has_all own (cs ++ c ∷ []) ≡ true
own_push own [] c h e = and_from (has own c) true e refl
own_push own (d ∷ cs) c h e = let p = and_parts (has own d) (has_all own cs) h in and_from (has own d) _ p.0 (own_push own cs c p.1 e)

-- the character at an index
pub own_get : (own cs : List ℕ) (i : ℕ) → has_all own cs ≡ true → IfSome (slice_get cs i) (λ c. has own c ≡ true)
own_get own [] i h = tt
own_get own (d ∷ cs) zero h = (and_parts (has own d) (has_all own cs) h).0
own_get own (d ∷ cs) (suc i) h = own_get own cs i (and_parts (has own d) (has_all own cs) h).1

-- each number of 16 bits is a character of BMPString
pub own_units : (us : List ℕ) → ((i : ℕ) → Fits w16 (get_or us i 0)) → has_all bmp us ≡ true
own_units [] h = refl
own_units (u ∷ us) h = and_from (has bmp u) _ (has-interval_of 65536 0 u ∙ and_from _ _ (le-leb 0 u (omega arith)) (lt-ltb u 65536 (h 0).fits)) (own_units us (λ i. h (suc i)))

-- characters below 128 are ASCII
pub own_ascii : (own cs : List ℕ) → nat_lt (greatest own) 128 ≡ true → has_all own cs ≡ true → IsAscii cs
own_ascii own [] f h i = omega arith
own_ascii own (c ∷ cs) f h zero =
    let own_c = has_below own c (and_parts (has own c) (has_all own cs) h).0 in
    let few = ltb-true (greatest own) 128 f in
    omega arith
own_ascii own (c ∷ cs) f h (suc i) = own_ascii own cs f (and_parts (has own c) (has_all own cs) h).1 i

-- more characters
pub own_append : (own cs ds : List ℕ) → has_all own cs ≡ true → has_all own ds ≡ true → has_all own (cs ++ ds) ≡ true
own_append own [] ds h e = e
own_append own (c ∷ cs) ds h e = let p = and_parts (has own c) (has_all own cs) h in and_from (has own c) _ p.0 (own_append own cs ds p.1 e)
