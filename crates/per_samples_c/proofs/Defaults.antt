-- Whether a Nest is one with so many levels, and its normal form.
use Rattle.std.proofs.Common.{◌≡◌, ◌≤◌, arith, nat_lt, Box, Global, refl, sym, ap, subst, ◌∙◌, ℕ, zero, suc, Bool, true, false, cond, eq-eqb, eqb-true, nat_eq, List, [], ◌∷◌, Option, Some, None}
use Rattle.rasn_below.specs.Values.{Value, same, code, equal_lists, sequence_value, slot_of}
use Rattle.rasn_below.specs.Types.{sequence_at, normal, settle}
use Rattle.rasn_below.proofs.Values.{same_true}
use Rattle.per_samples_c.specs.declared.nest.Nest.{Nest, Nest', None', Some'}
use Rattle.per_samples_c.specs.declared.nest.Nest.TheViews.{out-Nest, roll-Nest}
use Rattle.per_samples_c.proofs.Contents.{contents_of, contents_read}
use Rattle.per_samples_c.specs.Deeps.{nest_with}
use Rattle.per_samples_c.specs.Nests.{nest, nest_contents, nest_is_sequence, nest_schema}

-- two tests that hold of the same are one
alike : (a b : Bool) → (a ≡ true → b ≡ true) → (b ≡ true → a ≡ true) → a ≡ b
alike true b f g = sym (f refl)
alike false true f g = g refl
alike false false f g = refl

-- a record of one component that is there
abbrev around : Value → Value
around v = sequence_value (Some v ∷ [])

-- a record in its normal form
pub normal_nest : (n : ℕ) (x : Nest) → normal (nest_schema n) (sequence_value (nest_contents x)) ≡ sequence_value (nest_contents x)
unfolding normal settle
normal_nest zero x = refl
normal_nest (suc n) (Nest' None') = refl
normal_nest (suc n) (Nest' (Some' p x)) = ap around (normal_nest n x)

equal_self : (xs : List ℕ) → equal_lists xs xs ≡ true
equal_self [] = refl
equal_self (x ∷ xs) = ap (λ c. cond c (equal_lists xs xs) false) (eq-eqb x x refl) ∙ equal_self xs

same_self : (v : Value) → same v v ≡ true
unfolding same
same_self v = equal_self (code v)

-- whether two such records are one
same_around : (v w : Value) → same (around v) (around w) ≡ same v w
same_around v w = alike (same (around v) (around w)) (same v w)
    (λ e. let i : around v ≡ around w = same_true (around v) (around w) e in let j : v ≡ w = cc in subst (λ z. same v z ≡ true) j (same_self v))
    (λ e. subst (λ z. same (around v) (around z) ≡ true) (same_true v w e) (same_self (around v)))

-- whether the component of a record is left out, or so many levels are inside the record
pub same_absent : (n : ℕ) → nat_eq n 0 ≡ same (sequence_value (None ∷ [])) (nest_with n)
unfolding nest_with
same_absent zero = sym (same_self (sequence_value (None ∷ [])))
same_absent (suc n) = alike (nat_eq (suc n) 0) (same (sequence_value (None ∷ [])) (around (nest_with n))) (λ e. let i : suc n ≡ 0 = eqb-true (suc n) 0 e in absurd cc)
    (λ e. let i : sequence_value (None ∷ []) ≡ around (nest_with n) = same_true (sequence_value (None ∷ [])) (around (nest_with n)) e in absurd cc)

pub same_inside : (n : ℕ) (v : Value) → same (around v) (nest_with (suc n)) ≡ same v (nest_with n)
unfolding nest_with
same_inside n v = same_around v (nest_with n)

pub same_not_inside : (v : Value) → same (around v) (nest_with 0) ≡ false
unfolding nest_with
same_not_inside v = alike (same (around v) (sequence_value (None ∷ []))) false
    (λ e. let i : around v ≡ sequence_value (None ∷ []) = same_true (around v) (sequence_value (None ∷ [])) e in absurd cc) (λ e. absurd cc)

inside_is : (x : Nest) {b : Option (Box Nest Global)} → (out-Nest x).inner ≡ b → sequence_value (nest_contents x) ≡ sequence_value (slot_of (λ b. sequence_value (nest_contents b.value)) b ∷ [])
inside_is x e = ap sequence_value (contents_of x) ∙ ap (λ o. sequence_value (slot_of (λ b. sequence_value (nest_contents b.value)) o ∷ [])) e

-- whether a Nest is one with so many levels, by what is inside
pub nothing_inside : (x : Nest) (n : ℕ) → (out-Nest x).inner ≡ None → nat_eq n 0 ≡ same (sequence_value (nest_contents x)) (nest_with n)
nothing_inside x n e = same_absent n ∙ sym (ap (λ v. same v (nest_with n)) (inside_is x e))

pub more_inside : (x y : Nest) {b : Box Nest Global} (m n : ℕ) {r : Bool} → (out-Nest x).inner ≡ Some b → y ≡ b.value → n ≡ suc m
    → r ≡ same (sequence_value (nest_contents y)) (nest_with m) → r ≡ same (sequence_value (nest_contents x)) (nest_with n)
more_inside x y {b} m n e f h g =
    g ∙ ap (λ z. same (sequence_value (nest_contents z)) (nest_with m)) f ∙ sym (same_inside m (sequence_value (nest_contents b.value)))
    ∙ sym (ap (λ v. same v (nest_with (suc m))) (inside_is x e)) ∙ sym (ap (λ k. same (sequence_value (nest_contents x)) (nest_with k)) h)

pub too_many_inside : (x : Nest) {b : Box Nest Global} (n : ℕ) → (out-Nest x).inner ≡ Some b → n ≤ 0 → nat_lt 0 n ≡ same (sequence_value (nest_contents x)) (nest_with n)
too_many_inside x {b} zero e h = sym (same_not_inside (sequence_value (nest_contents b.value))) ∙ sym (ap (λ v. same v (nest_with 0)) (inside_is x e))
too_many_inside x (suc n) e h = absurd (omega (arith, h))

-- what is made: a Nest without anything inside, and one around another
pub first_made : sequence_value (nest_contents (roll-Nest (record { inner = None }))) ≡ nest_with 0
unfolding nest_with
first_made = ap sequence_value (contents_read None)

pub next_made : (b : Box Nest Global) (x : Nest) (m n : ℕ) → b.value ≡ x → sequence_value (nest_contents x) ≡ nest_with m → n ≡ suc m
    → sequence_value (nest_contents (roll-Nest (record { inner = Some b }))) ≡ nest_with n
unfolding nest_with
next_made b x m n e f h = ap sequence_value (contents_read (Some b)) ∙ ap around (ap (λ y. sequence_value (nest_contents y)) e ∙ f) ∙ sym (ap nest_with h)

-- a Nest in its normal form, at each depth of its tree
pub normal_sequence : (n : ℕ) (x : Nest) → normal (sequence_at nest n) (sequence_value (nest_contents x)) ≡ sequence_value (nest_contents x)
normal_sequence n x = ap (λ s. normal s (sequence_value (nest_contents x))) (nest_is_sequence n) ∙ normal_nest n x
