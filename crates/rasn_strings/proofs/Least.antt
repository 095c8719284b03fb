-- The least permitted number, found by one pass over the permitted ones in any order.
use Rattle.std.proofs.Common.{◌≡◌, refl, sym, ap, ◌∙◌, subst, ℕ, ◌^◌, ◌<◌, ◌≤◌, ◌⊎◌, min, true, false, eqb, List, [], ◌∷◌, ◌++◌, Option, Some, None, slice_get, IfSome, MatchOption, arith, inl, inr}
use Rattle.std.proofs.lemmas.Bool.{cases_lt, eqb-true, eq-eqb, and_parts, and_from, or_cases, or_left, or_right}
use Rattle.rasn_types.specs.Alphabets.{has, restricted}
use Rattle.rasn_strings.specs.Intervals.{expand, ascend_from}
use Rattle.rasn_strings.specs.Walks.{from_on}
use Rattle.rasn_strings.specs.declared.intervals.Interval.{Interval}
use Rattle.rasn_strings.proofs.Ascending.{Up, from_on-first, from_on-least, has-restricted, up-restricted, small}
use Rattle.rasn_strings.proofs.IntervalsOf.{has-append}

-- a number of both lists, not below n
pub record Fit (own : List ℕ) (n : ℕ) (seen : List ℕ) (c : ℕ) : Type 0 where
  pub own_has : has own c ≡ true
  pub seen_has : has seen c ≡ true
  pub from : n ≤ c

-- the least number of both lists that is not below n, where there is one
pub record Least (own : List ℕ) (n : ℕ) (seen : List ℕ) (o : Option ℕ) : Type 0 where
  pub fit : IfSome o (Fit own n seen)
  pub below : (d : ℕ) → Fit own n seen d → (c : ℕ) × (o ≡ Some c) × (c ≤ d)

pub least_none : (own : List ℕ) (n : ℕ) → Least own n [] None
least_none own n = record { fit = tt; below = λ d f. absurd (let h = f.seen_has in cc) }

-- one number more has been seen
longer : (own : List ℕ) (n : ℕ) (seen : List ℕ) (x c : ℕ) → Fit own n seen c → Fit own n (seen ++ x ∷ []) c
longer own n seen x c f = record { own_has = f.own_has; seen_has = has-append seen (x ∷ []) c ∙ or_left _ _ f.seen_has; from = f.from }

shorter : (own : List ℕ) (n : ℕ) (seen : List ℕ) (x d : ℕ) → Fit own n (seen ++ x ∷ []) d → (Fit own n seen d) ⊎ (x ≡ d)
shorter own n seen x d f = elim (or_cases (has seen d) (has (x ∷ []) d) (sym (has-append seen (x ∷ []) d) ∙ f.seen_has)) [
  | inl h ↦ inl (record { own_has = f.own_has; seen_has = h; from = f.from })
  | inr h ↦ elim (or_cases (eqb x d) false h) [
    | inl e ↦ inr (eqb-true x d e)
    | inr e ↦ absurd (cc)
  ]
]

newest : (own : List ℕ) (n : ℕ) (seen : List ℕ) (x : ℕ) → has own x ≡ true → n ≤ x → Fit own n (seen ++ x ∷ []) x
newest own n seen x h l = record { own_has = h; seen_has = has-append seen (x ∷ []) x ∙ or_right (has seen x) _ (or_left (eqb x x) false (eq-eqb x x refl)); from = l }

pub least_takes : (own : List ℕ) (n : ℕ) (seen : List ℕ) (o : Option ℕ) (x c : ℕ) → Least own n seen o → has own x ≡ true → n ≤ x → MatchOption o (c ≡ x) (λ least. c ≡ min least x) → Least own n (seen ++ x ∷ []) (Some c)
least_takes own n seen None x c f h l e = record {
  fit = subst (Fit own n (seen ++ x ∷ [])) (sym e) (newest own n seen x h l);
  below = λ d g. elim (shorter own n seen x d g) [
    | inl k ↦ let q = f.below d k in absurd (let r = q.1 in cc)
    | inr k ↦ (c, refl, omega arith)
  ];
}
least_takes own n seen (Some b) x c f h l e = record {
  fit = elim (cases_lt b x) [
    | inl k ↦ subst (Fit own n (seen ++ x ∷ [])) (let i : b ≡ c = omega arith in i) (longer own n seen x b f.fit)
    | inr k ↦ subst (Fit own n (seen ++ x ∷ [])) (let i : x ≡ c = omega arith in i) (newest own n seen x h l)
  ];
  below = λ d g. elim (shorter own n seen x d g) [
    | inl k ↦ let q = f.below d k in let r : b ≡ q.0 = (let s = q.1 in cc) in let t = q.2 in (c, refl, omega arith)
    | inr k ↦ (c, refl, omega arith)
  ];
}

pub least_keeps : (own : List ℕ) (n : ℕ) (seen : List ℕ) (o : Option ℕ) (x : ℕ) → Least own n seen o → (has own x ≡ true → n ≤ x → ⊥) → Least own n (seen ++ x ∷ []) o
least_keeps own n seen o x f h = record {
  fit = kept o f.fit;
  below = λ d g. elim (shorter own n seen x d g) [
    | inl k ↦ f.below d k
    | inr k ↦ absurd (h (subst (λ e. has own e ≡ true) (sym k) g.own_has) (subst (λ e. n ≤ e) (sym k) g.from))
  ];
}
  where
    kept : (o : Option ℕ) → IfSome o (Fit own n seen) → IfSome o (Fit own n (seen ++ x ∷ []))
    kept None k = tt
    kept (Some c) k = longer own n seen x c k

-- the least is the first of those that are left
pub least_first : (is : List Interval) (n : ℕ) (some : List ℕ) (o : Option ℕ) → ascend_from 0 is ≡ true → Least (expand is) n some o → o ≡ slice_get (from_on n (restricted (expand is) some)) 0
least_first is n some o a f = go (from_on n (restricted (expand is) some)) refl o f
  where
    up : Up 0 (restricted (expand is) some)
    up = up-restricted is some a

    permitted : (c : ℕ) → Fit (expand is) n some c → has (restricted (expand is) some) c ≡ true
    permitted c g = has-restricted (expand is) some c ∙ and_from _ _ g.own_has g.seen_has

    first : (c : ℕ) (cs : List ℕ) → from_on n (restricted (expand is) some) ≡ c ∷ cs → Fit (expand is) n some c
    first c cs e = let q = from_on-first n (restricted (expand is) some) c cs e in
        let p = and_parts _ _ (sym (has-restricted (expand is) some c) ∙ q.0) in record { own_has = p.0; seen_has = p.1; from = q.1 }

    go : (left : List ℕ) → from_on n (restricted (expand is) some) ≡ left → (o : Option ℕ) → Least (expand is) n some o → o ≡ slice_get left 0
    go [] e None f = refl
    go [] e (Some c) f = let q = from_on-least 0 n (restricted (expand is) some) c up (permitted c f.fit) f.fit.from in absurd (let r = q.2 in cc)
    go (y ∷ ys) e None f = let q = f.below y (first y ys e) in absurd (let r = q.1 in cc)
    go (y ∷ ys) e (Some c) f =
        let q = f.below y (first y ys e) in let q1 : c ≡ q.0 = (let r = q.1 in cc) in let q2 = q.2 in
        let p = from_on-least 0 n (restricted (expand is) some) c up (permitted c f.fit) f.fit.from in
        let p2 : y ≡ p.0 = (let r = p.2 in cc) in let p3 = p.3 in
        ap (λ (k : ℕ). Some k) (let i : c ≡ y = omega arith in i)

pub least_small : (is : List Interval) (n : ℕ) (some : List ℕ) (o : Option ℕ) → ascend_from 0 is ≡ true → Least (expand is) n some o → IfSome o (λ c. c < 2 ^ 16)
least_small is n some None a f = tt
least_small is n some (Some c) a f = small 0 is c a f.fit.own_has
