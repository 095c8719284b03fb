-- Whether two values of a type are one, by what they are made of.
use Rattle.std.proofs.Common.{◌≡◌, refl, sym, ap, ◌∙◌, ℕ, zero, suc, ◌+◌, ◌<◌, ◌≤◌, Bool, true, false, cond, not, nat_eq, eqb, if◌then◌else◌, List, [], ◌∷◌, map, length, drop, get_or, eqb-true, arith, ℤ, pos, negsuc, FitsSigned, of_z, to_z, to_z-of_z}
use mir.Syntax.{Width}
use mathlib.Core.Bool.{beq}
use Rattle.std.specs.Ordering.{int_eq}
use Rattle.std.specs.Bool.{Decides}
use Rattle.std.specs.Cmp.Lexicographic.{pointwise}
use Rattle.std.proofs.lemmas.Bool.{eq-eqb, ne_eqb}
use Rattle.std.proofs.lemmas.Bool.Decides.{same_from_decides, Decides-eqb, Decides-int_eq}
use Rattle.std.proofs.lemmas.Slice.Eq.{slice_eq-Decides}
use Rattle.rasn_types.specs.Values.{Value, truth, whole, item, octets, bits, characters, root, added, same, code, equal_lists, bool_code}
use Rattle.rasn_constraints.specs.Bounds.{Size}
use Rattle.rasn_schema.specs.Schemas.{Schema}
use Rattle.rasn_schema.specs.Lists.{list_at}
use Rattle.rasn_schema.specs.Structures.{list_value}
use Rattle.rasn_schema.specs.Normal.{normal}

equal_lists_same : (xs ys : List ℕ) → equal_lists xs ys ≡ true → xs ≡ ys
equal_lists_same [] [] e = refl
equal_lists_same [] (y ∷ ys) e = absurd (cc)
equal_lists_same (x ∷ xs) [] e = absurd (cc)
equal_lists_same (x ∷ xs) (y ∷ ys) e = go (eqb x y) refl e (equal_lists_same xs ys)
  where
    go : (b : Bool) → eqb x y ≡ b → cond b (equal_lists xs ys) false ≡ true → (equal_lists xs ys ≡ true → xs ≡ ys) → x ∷ xs ≡ y ∷ ys
    go true h e r = let u : x ≡ y = eqb-true x y h in let v : xs ≡ ys = r e in cc
    go false h e r = absurd (cc)

equal_lists_self : (xs : List ℕ) → equal_lists xs xs ≡ true
equal_lists_self [] = refl
equal_lists_self (x ∷ xs) = rw (eq-eqb x x refl) (equal_lists_self xs)

-- values with one code are those that are one
pub code_decides : {A : Type 0} (value : A → Value) (x y : A) → (code (value x) ≡ code (value y) → x ≡ y) → Decides (same (value x) (value y)) (x ≡ y)
unfolding same
code_decides value x y h = (λ e. h (equal_lists_same (code (value x)) (code (value y)) e), λ e. rw e (equal_lists_self (code (value y))))

-- of truth values and of numbers
pub same_truth : (a b : Bool) → beq a b ≡ same (truth b) (truth a)
unfolding same code
same_truth true true = refl
same_truth true false = refl
same_truth false true = refl
same_truth false false = refl

same_by : {A : Type 0} (value : A → Value) (r : Bool) (x y : A) → Decides r (x ≡ y) → (code (value y) ≡ code (value x) → y ≡ x) → r ≡ same (value y) (value x)
same_by value r x y d h = same_from_decides r (same (value y) (value x)) (λ e. sym (d.0 e), λ e. d.1 (sym e)) (code_decides value y x h)

natural_of : (a b : ℕ) → code (whole (pos a)) ≡ code (whole (pos b)) → a ≡ b
unfolding code
natural_of a b e = cc

pub same_number : (a b : ℕ) → nat_eq a b ≡ same (whole (pos b)) (whole (pos a))
same_number a b = same_by (λ n. whole (pos n)) (nat_eq a b) a b (Decides-eqb a b) (natural_of b a)

whole_of : (a b : ℤ) → code (whole a) ≡ code (whole b) → a ≡ b
unfolding code
whole_of (pos m) (pos n) e = let h : m ≡ n = cc in ap pos h
whole_of (pos m) (negsuc n) e = absurd (cc)
whole_of (negsuc m) (pos n) e = absurd (cc)
whole_of (negsuc m) (negsuc n) e = let h : m ≡ n = cc in ap negsuc h

pub same_whole : (a b : ℤ) → int_eq a b ≡ same (whole b) (whole a)
same_whole a b = same_by whole (int_eq a b) a b (Decides-int_eq a b) (whole_of b a)

pub same_signed : (w : Width) (a b : ℤ) → FitsSigned w a → FitsSigned w b → eqb (of_z w a) (of_z w b) ≡ same (whole b) (whole a)
same_signed w a b f g = same_by whole (eqb (of_z w a) (of_z w b)) a b (λ e. sym (to_z-of_z f) ∙ (ap (to_z w) ((Decides-eqb (of_z w a) (of_z w b)).0 e) ∙ to_z-of_z g), λ e. (Decides-eqb (of_z w a) (of_z w b)).1 (ap (of_z w) e)) (whole_of b a)

-- of octets and of characters
octets_of : (xs ys : List ℕ) → code (octets xs) ≡ code (octets ys) → xs ≡ ys
unfolding code
octets_of xs ys e = cc

pub same_octets : (xs ys : List ℕ) → pointwise nat_eq ys xs ≡ same (octets ys) (octets xs)
same_octets xs ys = same_from_decides _ _ (slice_eq-Decides Decides-eqb ys xs (pointwise nat_eq ys xs) refl) (code_decides octets ys xs (octets_of ys xs))

characters_of : (xs ys : List ℕ) → code (characters xs) ≡ code (characters ys) → xs ≡ ys
unfolding code
characters_of xs ys e = cc

pub same_characters : (xs ys : List ℕ) → pointwise nat_eq ys xs ≡ same (characters ys) (characters xs)
same_characters xs ys = same_from_decides _ _ (slice_eq-Decides Decides-eqb ys xs (pointwise nat_eq ys xs) refl) (code_decides characters ys xs (characters_of ys xs))

-- of items, by their places
itself : (b : Bool) → b ≡ (if b then true else false)
itself true = refl
itself false = refl

pub both_root : (v w : Value) (i j : ℕ) → v ≡ item root i → w ≡ item root j → eqb i j ≡ same v w
unfolding same code
both_root v w i j e f = rw (e, f) (itself (eqb i j))

pub both_added : (v w : Value) (i j : ℕ) → v ≡ item added i → w ≡ item added j → eqb i j ≡ same v w
unfolding same code
both_added v w i j e f = rw (e, f) (itself (eqb i j))

pub root_and_added : (v w : Value) (i j : ℕ) → v ≡ item root i → w ≡ item added j → false ≡ same v w
unfolding same code
root_and_added v w i j e f = rw (e, f) refl

pub added_and_root : (v w : Value) (i j : ℕ) → v ≡ item added i → w ≡ item root j → false ≡ same v w
unfolding same code
added_and_root v w i j e f = rw (e, f) refl

-- of lists, one of which has no elements
pub same_empty : {A : Type 0} (value : A → Value) (element : ℕ → Schema) (size : Size) (mark : Bool) (xs : List A) (n : ℕ) → 1 ≤ n
    → eqb (length xs) 0 ≡ same (normal (list_at element size mark n) (list_value (map value xs))) (list_value [])
unfolding same code normal
same_empty value element size mark xs zero le = absurd (omega arith)
same_empty value element size mark [] (suc n) le = refl
same_empty value element size mark (x ∷ xs) (suc n) le = ne_eqb (suc (length xs)) 0 (λ e. omega arith)

-- of bits
bool_codes : (xs ys : List Bool) → map bool_code xs ≡ map bool_code ys → xs ≡ ys
bool_codes [] [] e = refl
bool_codes [] (y ∷ ys) e = absurd (cc)
bool_codes (x ∷ xs) [] e = absurd (cc)
bool_codes (true ∷ xs) (true ∷ ys) e = ap (λ zs. true ∷ zs) (bool_codes xs ys (cc))
bool_codes (true ∷ xs) (false ∷ ys) e = absurd (cc)
bool_codes (false ∷ xs) (true ∷ ys) e = absurd (cc)
bool_codes (false ∷ xs) (false ∷ ys) e = ap (λ zs. false ∷ zs) (bool_codes xs ys (cc))

bits_of : (xs ys : List Bool) → code (bits xs) ≡ code (bits ys) → xs ≡ ys
unfolding code
bits_of xs ys e = bool_codes xs ys (cc)

bools_decide : (a b : Bool) → Decides (beq a b) (a ≡ b)
bools_decide true true = (λ e. refl, λ e. refl)
bools_decide true false = (λ e. absurd (cc), λ e. absurd (cc))
bools_decide false true = (λ e. absurd (cc), λ e. absurd (cc))
bools_decide false false = (λ e. refl, λ e. refl)

pub same_bits : (xs ys : List Bool) → pointwise beq ys xs ≡ same (bits ys) (bits xs)
same_bits xs ys = same_from_decides _ _ (slice_eq-Decides bools_decide ys xs (pointwise beq ys xs) refl) (code_decides bits ys xs (bits_of ys xs))

-- bits from a place on are the same exactly where those at the place and those after it are
head_bit : (i : ℕ) (xs ys : List Bool) → i < length xs → i < length ys → pointwise beq (drop i xs) (drop i ys) ≡ cond (beq (get_or xs i false) (get_or ys i false)) (pointwise beq (drop (suc i) xs) (drop (suc i) ys)) false
head_bit i [] ys p q = absurd (omega (arith, p))
head_bit i (x ∷ xs) [] p q = absurd (omega (arith, q))
head_bit zero (true ∷ xs) (true ∷ ys) p q = refl
head_bit zero (true ∷ xs) (false ∷ ys) p q = refl
head_bit zero (false ∷ xs) (true ∷ ys) p q = refl
head_bit zero (false ∷ xs) (false ∷ ys) p q = refl
head_bit (suc i) (x ∷ xs) (y ∷ ys) p q = head_bit i xs ys (omega (arith, p)) (omega (arith, q))

pub next_bit : (i : ℕ) (xs ys : List Bool) (b r : Bool) → length xs ≡ length ys → i < length ys → b ≡ get_or xs i false → not (beq b (get_or ys i false)) ≡ false → pointwise beq (drop i xs) (drop i ys) ≡ r → pointwise beq (drop (i + 1) xs) (drop (i + 1) ys) ≡ r
next_bit i xs ys b r e l g n h = go (beq (get_or xs i false) (get_or ys i false)) (rw (sym g) n) (sym (head_bit i xs ys (omega (arith, e, l)) l) ∙ h)
  where
    go : (t : Bool) → not t ≡ false → cond t (pointwise beq (drop (suc i) xs) (drop (suc i) ys)) false ≡ r → pointwise beq (drop (i + 1) xs) (drop (i + 1) ys) ≡ r
    go true n h = let e : i + 1 ≡ suc i = omega arith in rw e h
    go false n h = absurd (cc)

pub other_bit : (i : ℕ) (xs ys : List Bool) (b r : Bool) → length xs ≡ length ys → i < length ys → b ≡ get_or xs i false → not (beq b (get_or ys i false)) ≡ true → pointwise beq (drop i xs) (drop i ys) ≡ r → false ≡ r
other_bit i xs ys b r e l g n h = go (beq (get_or xs i false) (get_or ys i false)) (rw (sym g) n) (sym (head_bit i xs ys (omega (arith, e, l)) l) ∙ h)
  where
    go : (t : Bool) → not t ≡ true → cond t (pointwise beq (drop (suc i) xs) (drop (suc i) ys)) false ≡ r → false ≡ r
    go true n h = absurd (cc)
    go false n h = h
