-- Alternatives that are told apart by their tags: one of a list isn't found in another.
use Rattle.std.proofs.Common.{◌≡◌, refl, ℕ, Bool, true, false, not, eqb, List, [], ◌∷◌, ◌++◌, cond, Some, None, ◌+◌}
use Rattle.std.specs.List.{position_from}
use Rattle.std.proofs.lemmas.Bool.{eqb-true}
use Rattle.rasn_schema.specs.Lawful.{are_distinct, is_new, same_tag}
use Rattle.rasn_schema.specs.Schemas.{Tag}
use Rattle.rasn_schema.proofs.Places.{and_first, and_second, not_false}

-- a tag that is the same as another is told from the same ones
same_as : (t u v : Tag) → same_tag t u ≡ true → same_tag u v ≡ false → same_tag t v ≡ false
same_as t u v e n =
    let c = eqb-true t.class u.class (and_first (eqb t.class u.class) (eqb t.number u.number) e) in
    let m = eqb-true t.number u.number (and_second (eqb t.class u.class) (eqb t.number u.number) e) in
    rw (c, m) n

-- a tag that is the same as one that isn't in a list isn't found there
not_in : (us : List Tag) (j : ℕ) (t u : Tag) → is_new u us ≡ true → same_tag t u ≡ true → position_from (same_tag t) j us ≡ None
not_in [] j t u n e = refl
not_in (v ∷ vs) j t u n e =
    rw (same_as t u v e (not_false (same_tag u v) (and_first (not (same_tag u v)) (is_new u vs) n))) (not_in vs (j + 1) t u (and_second (not (same_tag u v)) (is_new u vs) n) e)

new_after : (us ws : List Tag) (u : Tag) → is_new u (us ++ ws) ≡ true → is_new u ws ≡ true
new_after [] ws u n = n
new_after (v ∷ vs) ws u n = new_after vs ws u (and_second (not (same_tag u v)) (is_new u (vs ++ ws)) n)

-- of tags that differ, one that is found in the first list isn't found after it
pub not_after : (us ws : List Tag) (j k i : ℕ) (t : Tag) → are_distinct (us ++ ws) ≡ true → position_from (same_tag t) j us ≡ Some i → position_from (same_tag t) k ws ≡ None
not_after [] ws j k i t d e = absurd cc
not_after (u ∷ us) ws j k i t d e = go (same_tag t u) refl e (not_after us ws (j + 1) k i t (and_second (is_new u (us ++ ws)) (are_distinct (us ++ ws)) d))
  where
    go : (b : Bool) → same_tag t u ≡ b → cond b (Some j) (position_from (same_tag t) (j + 1) us) ≡ Some i
        → (position_from (same_tag t) (j + 1) us ≡ Some i → position_from (same_tag t) k ws ≡ None) → position_from (same_tag t) k ws ≡ None
    go true s f h = not_in ws k t u (new_after us ws u (and_first (is_new u (us ++ ws)) (are_distinct (us ++ ws)) d)) s
    go false s f h = h f

new_before : (us ws : List Tag) (u : Tag) → is_new u (us ++ ws) ≡ true → is_new u us ≡ true
new_before [] ws u n = refl
new_before (v ∷ vs) ws u n = rw (and_first (not (same_tag u v)) (is_new u (vs ++ ws)) n) (new_before vs ws u (and_second (not (same_tag u v)) (is_new u (vs ++ ws)) n))

-- tags that differ do so in the first list
pub distinct_before : (us ws : List Tag) → are_distinct (us ++ ws) ≡ true → are_distinct us ≡ true
distinct_before [] ws d = refl
distinct_before (u ∷ us) ws d =
    rw (new_before us ws u (and_first (is_new u (us ++ ws)) (are_distinct (us ++ ws)) d)) (distinct_before us ws (and_second (is_new u (us ++ ws)) (are_distinct (us ++ ws)) d))

-- and after it
pub distinct_after : (us ws : List Tag) → are_distinct (us ++ ws) ≡ true → are_distinct ws ≡ true
distinct_after [] ws d = d
distinct_after (u ∷ us) ws d = distinct_after us ws (and_second (is_new u (us ++ ws)) (are_distinct (us ++ ws)) d)
