-- An alternative is found by its tag: of a lawful choice no tag is that of two alternatives.
use Rattle.std.proofs.Common.{eqb-true, ◌≡◌, refl, sym, ap, ◌∙◌, ap₂, ℕ, zero, suc, Bool, true, false, not, eqb, ◌&&◌, ◌||◌, List, [], ◌∷◌, ◌++◌}
use Rattle.rasn_types.specs.Values.{Side, root, added}
use Rattle.rasn_schema.specs.Depth.{any_of}
use Rattle.rasn_schema.specs.Lawful.{IsLawful, leaves, same_tag, is_new, are_distinct, are_required, tags_below}
use Rattle.rasn_schema.specs.Schemas.{Tag, required, optional, group, default, Schema, Parts, no_parts, part}
use Rattle.per_core.proofs.LengthForms.{and_left, and_right}
use Rattle.per_laws.specs.Listings.{tags_at, has_tag}

-- tags that pass the test are one
pub one_tag : (t u : Tag) → same_tag t u ≡ true → t ≡ u
one_tag t u e =
    let c : t.class ≡ u.class = eqb-true t.class u.class (and_left (eqb t.class u.class) (eqb t.number u.number) e) in
    let n : t.number ≡ u.number = eqb-true t.number u.number (and_right (eqb t.class u.class) (eqb t.number u.number) e) in
    ap₂ (λ (c : ℕ) (n : ℕ). let x : Tag = record { class = c; number = n } in x) c n

-- what is new in a list isn't in it
pub new_no : (t : Tag) (us : List Tag) → is_new t us ≡ true → any_of (same_tag t) us ≡ false
new_no t [] e = refl
new_no t (u ∷ us) e = go (same_tag t u) refl (new_no t us (and_right (not (same_tag t u)) (is_new t us) e)) (and_left (not (same_tag t u)) (is_new t us) e)
  where
    go : (b : Bool) → same_tag t u ≡ b → any_of (same_tag t) us ≡ false → not (same_tag t u) ≡ true → (same_tag t u || any_of (same_tag t) us) ≡ false
    go true f r n = let h : not true ≡ true = ap not (sym f) ∙ n in absurd (cc)
    go false f r n = ap (λ c. c || any_of (same_tag t) us) f ∙ r

pub any_append : (f : Tag → Bool) (us vs : List Tag) → any_of f (us ++ vs) ≡ (any_of f us || any_of f vs)
any_append f [] vs = refl
any_append f (u ∷ us) vs = ap (λ b. f u || b) (any_append f us vs) ∙ go (f u)
  where
    go : (b : Bool) → (b || (any_of f us || any_of f vs)) ≡ ((b || any_of f us) || any_of f vs)
    go true = refl
    go false = refl

pub found_left : (f : Tag → Bool) (us vs : List Tag) → any_of f us ≡ true → any_of f (us ++ vs) ≡ true
found_left f us vs e = any_append f us vs ∙ ap (λ b. b || any_of f vs) e

pub found_right : (f : Tag → Bool) (us vs : List Tag) → any_of f vs ≡ true → any_of f (us ++ vs) ≡ true
found_right f us vs e = any_append f us vs ∙ ap (λ b. any_of f us || b) e ∙ go (any_of f us)
  where
    go : (b : Bool) → (b || true) ≡ true
    go true = refl
    go false = refl

-- no tag is in both halves
pub apart : (us vs : List Tag) (t : Tag) → are_distinct (us ++ vs) ≡ true → any_of (same_tag t) us ≡ true → any_of (same_tag t) vs ≡ true → ⊥
apart [] vs t d e f = absurd (cc)
apart (u ∷ us) vs t d e f = go (same_tag t u) refl (apart us vs t (and_right (is_new u (us ++ vs)) (are_distinct (us ++ vs)) d))
  where
    go : (b : Bool) → same_tag t u ≡ b → (any_of (same_tag t) us ≡ true → any_of (same_tag t) vs ≡ true → ⊥) → ⊥
    go false s ih = ih (sym (ap (λ b. b || any_of (same_tag t) us) s) ∙ e) f
    go true s ih =
        let n = new_no u (us ++ vs) (and_left (is_new u (us ++ vs)) (are_distinct (us ++ vs)) d) in
        let g = found_right (same_tag u) us vs (ap (λ x. any_of (same_tag x) vs) (sym (one_tag t u s)) ∙ f) in
        absurd (cc)

new_left : (t : Tag) (us vs : List Tag) → is_new t (us ++ vs) ≡ true → is_new t us ≡ true
new_left t [] vs e = refl
new_left t (u ∷ us) vs e = ap₂ (λ b c. b && c) (and_left (not (same_tag t u)) (is_new t (us ++ vs)) e) (new_left t us vs (and_right (not (same_tag t u)) (is_new t (us ++ vs)) e))

pub distinct_left : (us vs : List Tag) → are_distinct (us ++ vs) ≡ true → are_distinct us ≡ true
distinct_left [] vs e = refl
distinct_left (u ∷ us) vs e = ap₂ (λ b c. b && c) (new_left u us vs (and_left (is_new u (us ++ vs)) (are_distinct (us ++ vs)) e)) (distinct_left us vs (and_right (is_new u (us ++ vs)) (are_distinct (us ++ vs)) e))

pub distinct_right : (us vs : List Tag) → are_distinct (us ++ vs) ≡ true → are_distinct vs ≡ true
distinct_right [] vs e = e
distinct_right (u ∷ us) vs e = distinct_right us vs (and_right (is_new u (us ++ vs)) (are_distinct (us ++ vs)) e)

-- a tag of an alternative is one of all
at_below : (ps : Parts) → are_required ps ≡ true → (i : ℕ) (t : Tag) → any_of (same_tag t) (tags_at ps i) ≡ true → any_of (same_tag t) (tags_below ps) ≡ true
at_below no_parts r i t e = e
at_below (part l required s ps) r zero t e = found_left (same_tag t) (leaves l) (tags_below ps) e
at_below (part l required s ps) r (suc i) t e = found_right (same_tag t) (leaves l) (tags_below ps) (at_below ps r i t e)
at_below (part l optional s ps) r i t e = absurd (cc)
at_below (part l group s ps) r i t e = absurd (cc)
at_below (part l (default d) s ps) r i t e = absurd (cc)

one_place : (ps : Parts) → are_required ps ≡ true → are_distinct (tags_below ps) ≡ true → (i j : ℕ) (t : Tag) → any_of (same_tag t) (tags_at ps i) ≡ true → any_of (same_tag t) (tags_at ps j) ≡ true → i ≡ j
one_place no_parts r d i j t e f = absurd (cc)
one_place (part l required s ps) r d zero zero t e f = refl
one_place (part l required s ps) r d zero (suc j) t e f = absurd (apart (leaves l) (tags_below ps) t d e (at_below ps r j t f))
one_place (part l required s ps) r d (suc i) zero t e f = absurd (apart (leaves l) (tags_below ps) t d f (at_below ps r i t e))
one_place (part l required s ps) r d (suc i) (suc j) t e f = ap suc (one_place ps r (distinct_right (leaves l) (tags_below ps) d) i j t e f)
one_place (part l optional s ps) r d i j t e f = absurd (cc)
one_place (part l group s ps) r d i j t e f = absurd (cc)
one_place (part l (default x) s ps) r d i j t e f = absurd (cc)

pub found_by_tag : (ps adds : Parts) (ext : Bool) → IsLawful (Schema.choice ps adds ext) → (d e : Side) (i j : ℕ) (t : Tag) → has_tag ps adds d i t ≡ true → has_tag ps adds e j t ≡ true → (d ≡ e) × (i ≡ j)
unfolding IsLawful
found_by_tag ps adds ext l d e i j t h k = go d e h k
  where
    r : are_required ps ≡ true
    r = and_left (are_required ps) (are_required adds) l.0.all_required

    x : are_required adds ≡ true
    x = and_right (are_required ps) (are_required adds) l.0.all_required

    go : (d e : Side) → has_tag ps adds d i t ≡ true → has_tag ps adds e j t ≡ true → (d ≡ e) × (i ≡ j)
    go root root h k = (refl, one_place ps r (distinct_left (tags_below ps) (tags_below adds) l.0.distinct_tags) i j t h k)
    go added added h k = (refl, one_place adds x (distinct_right (tags_below ps) (tags_below adds) l.0.distinct_tags) i j t h k)
    go root added h k = absurd (apart (tags_below ps) (tags_below adds) t l.0.distinct_tags (at_below ps r i t h) (at_below adds x j t k))
    go added root h k = absurd (apart (tags_below ps) (tags_below adds) t l.0.distinct_tags (at_below ps r j t k) (at_below adds x i t h))
