-- Tests of all of a list.
use Rattle.std.proofs.Common.{◌≡◌, refl, subst, ap, sym, ◌∙◌, ℕ, zero, suc, ◌+◌, ◌<◌, Bool, true, false, ◌&&◌, not, List, [], ◌∷◌, ◌++◌, length, take, get_or, Some, arith}
use Rattle.std.specs.Prelude.{slice_get}
use Rattle.rasn_schema.specs.Structures.{tag_of}
use Rattle.rasn_schema.specs.Lawful.{all_pass, is_new, same_tag}
use Rattle.rasn_schema.specs.Schemas.{Tag}
use Rattle.rasn_schema.proofs.Places.{and_first, and_second}
use Rattle.rasn_dynamic.specs.declared.types.Alternative.{Alternative}
use Rattle.lawful_types.specs.TypeRules.{tags_of}

pub and_true : (a b : Bool) → a ≡ true → b ≡ true → (a && b) ≡ true
and_true a b e f = rw (e, f) refl

-- one that doesn't pass
and_not : (a b : Bool) → b ≡ false → (a && b) ≡ false
and_not true b e = e
and_not false b e = refl

module _ {A : Type 0} (f : A → Bool) where
  -- what a list has at a place passes
  pub passes_at : (xs : List A) → all_pass f xs ≡ true → (i : ℕ) (x : A) → slice_get xs i ≡ Some x → f x ≡ true
  passes_at [] h i x e = absurd cc
  passes_at (y ∷ ys) h zero x e = let s : y ≡ x = cc in rw (sym s) (and_first (f y) (all_pass f ys) h)
  passes_at (y ∷ ys) h (suc i) x e = passes_at ys (and_second (f y) (all_pass f ys) h) i x e

  -- one more
  passes_suc : (xs : List A) (i : ℕ) (x : A) → i < length xs → x ≡ get_or xs i x → f x ≡ true → all_pass f (take i xs) ≡ true → all_pass f (take (suc i) xs) ≡ true
  passes_suc [] i x l e g h = absurd (omega arith)
  passes_suc (y ∷ ys) zero x l e g h = and_true (f y) true (sym (ap f e) ∙ g) refl
  passes_suc (y ∷ ys) (suc i) x l e g h =
      and_true (f y) (all_pass f (take (suc i) ys)) (and_first (f y) (all_pass f (take i ys)) h) (passes_suc ys i x (omega arith) e g (and_second (f y) (all_pass f (take i ys)) h))

  pub passes_more : (xs : List A) (i : ℕ) (x : A) → i < length xs → x ≡ get_or xs i x → f x ≡ true → all_pass f (take i xs) ≡ true → all_pass f (take (i + 1) xs) ≡ true
  passes_more xs i x l e g h = subst (λ n. all_pass f (take n xs) ≡ true) (let on : suc i ≡ i + 1 = omega arith in on) (passes_suc xs i x l e g h)

  -- one doesn't
  pub fails_at : (xs : List A) (i : ℕ) (x : A) → i < length xs → x ≡ get_or xs i x → f x ≡ false → all_pass f xs ≡ false
  fails_at [] i x l e g = absurd (omega arith)
  fails_at (y ∷ ys) zero x l e g = let h : f y ≡ false = sym (ap f e) ∙ g in rw h refl
  fails_at (y ∷ ys) (suc i) x l e g = and_not (f y) (all_pass f ys) (fails_at ys i x (omega arith) e g)

-- where an item of a list stands
pub stands_at : {A : Type 0} (xs : List A) (i : ℕ) (x : A) → i < length xs → x ≡ get_or xs i x → slice_get xs i ≡ Some x
stands_at [] i x l e = absurd (omega arith)
stands_at (y ∷ ys) zero x l e = ap Some (sym e)
stands_at (y ∷ ys) (suc i) x l e = stands_at ys i x (omega arith) e

-- a tag that isn't that of any alternative
pub all_differ : (t : Tag) (cs : List Alternative) → is_new t (tags_of cs) ≡ all_pass (λ a. not (same_tag t (tag_of a.tag))) cs
all_differ t [] = refl
all_differ t (c ∷ cs) = ap (λ b. not (same_tag t (tag_of c.tag)) && b) (all_differ t cs)

-- tags that are new beside those of two lists
and_grouped : (a b c : Bool) → (a && (b && c)) ≡ ((a && b) && c)
and_grouped true b c = refl
and_grouped false b c = refl

pub new_both : (t : Tag) (us vs : List Tag) → is_new t (us ++ vs) ≡ (is_new t us && is_new t vs)
new_both t [] vs = refl
new_both t (u ∷ us) vs = ap (λ b. not (same_tag t u) && b) (new_both t us vs) ∙ and_grouped (not (same_tag t u)) (is_new t us) (is_new t vs)
