-- What stays true of a list of pairs when more pairs are listed.
use Rattle.std.proofs.Common.{◌≡◌, sym, ap, ◌∙◌, subst, ℕ, zero, suc, ◌+◌, ◌<◌, ◌≤◌, Bool, List, [], ◌∷◌, ◌++◌, length, take, get_or, Some, None, arith}
use Rattle.std.specs.Prelude.{slice_get}
use Rattle.std.specs.List.{All}
use Rattle.std.proofs.lemmas.List.{append-nil, append_assoc, length-append, take-append-le, take_all, get_or_append_left}
use Rattle.std.proofs.lemmas.List.Elements.{All-more, All-weaker, Contains-append_left}
use Rattle.std.proofs.lemmas.Option.{get_or_from_slice_get, slice_get_within}
use Rattle.rasn_schema.specs.Schemas.{Schema}
use Rattle.rasn_dynamic.specs.declared.types.Component.{Component}
use Rattle.rasn_dynamic.specs.declared.types.Alternative.{Alternative}
use Rattle.rasn_dynamic.specs.declared.types.Kind.{Kind}
use Rattle.lawful_types.specs.declared.pairs.Pair.{Pair}
use Rattle.lawful_types.specs.OneLevel.{AreClosed, AreVersions, IsFront, IsListed, AreNewerAlternatives, AreNewerComponents, IsNewerAlternative, IsNewerComponent, IsNewerPair}

pub front_itself : (ps : List Pair) → IsFront ps ps
front_itself ps = ([], sym (append-nil ps))

pub front_then : (ps qs rs : List Pair) → IsFront ps qs → IsFront qs rs → IsFront ps rs
front_then ps qs rs (a, e) (b, f) = (a ++ b, f ∙ ap (λ l. l ++ b) e ∙ append_assoc ps a b)

pub listed_more : (ps qs : List Pair) (i j : ℕ) → IsFront ps qs → IsListed ps i j → IsListed qs i j
listed_more ps qs i j (a, e) l = subst (λ x. IsListed x i j) (sym e) (Contains-append_left ps a (record { newer = i; older = j }) l)

pub versions_front : (ts' ts : List Kind) (ps qs : List Pair) (s' s : ℕ → Schema) → IsFront ps qs → AreVersions ts' ts qs s' s → AreVersions ts' ts ps s' s
versions_front ts' ts ps qs s' s f v = record { newer = λ i j l. v.newer i j (listed_more ps qs i j f l); newer_defaults = v.newer_defaults; defaults = v.defaults }

pub pair_more : (ts' ts : List Kind) (ps qs : List Pair) → IsFront ps qs → (p : Pair) → IsNewerPair ts' ts ps p → IsNewerPair ts' ts qs p
pair_more ts' ts ps qs f p h = λ s' s n v. h s' s n (versions_front ts' ts ps qs s' s f v)

pub component_more : (b : Bool) (ts' ts : List Kind) (ps qs : List Pair) (c' c : Component) → IsFront ps qs → IsNewerComponent b ts' ts ps c' c → IsNewerComponent b ts' ts qs c' c
component_more b ts' ts ps qs c' c f h = record { tag = h.tag; listed = listed_more ps qs c'.of c.of f h.listed; presence = h.presence }

pub alternative_more : (ps qs : List Pair) (c' c : Alternative) → IsFront ps qs → IsNewerAlternative ps c' c → IsNewerAlternative qs c' c
alternative_more ps qs c' c f h = record { tag = h.tag; listed = listed_more ps qs c'.of c.of f h.listed }

pub components_more : (b : Bool) (ts' ts : List Kind) (ps qs : List Pair) (cs' cs : List Component) → IsFront ps qs → AreNewerComponents b ts' ts ps cs' cs → AreNewerComponents b ts' ts qs cs' cs
components_more b ts' ts ps qs cs' cs f h = λ s' s v. h s' s (versions_front ts' ts ps qs s' s f v)

pub alternatives_more : (b : Bool) (ps qs : List Pair) (cs' cs : List Alternative) → IsFront ps qs → AreNewerAlternatives b ps cs' cs → AreNewerAlternatives b qs cs' cs
alternatives_more b ps qs cs' cs f h = λ s' s v. h s' s (λ i j l. v i j (listed_more ps qs i j f l))

-- one more pair is compared
pub closed_more : (ts' ts : List Kind) (ps qs : List Pair) (i : ℕ) (p : Pair) → Some p ≡ slice_get ps i → IsFront ps qs → IsNewerPair ts' ts qs p → All (IsNewerPair ts' ts ps) (take i ps) →
    All (IsNewerPair ts' ts qs) (take (i + 1) qs)
closed_more ts' ts ps qs i p e (rest, f) h all =
    All-more P qs i p inside (subst (λ l. All P l) (sym front) (All-weaker (IsNewerPair ts' ts ps) P (λ x y. pair_more ts' ts ps qs (rest, f) x y) (take i ps) all)) (subst P (sym here) h)
  where
    P : Pair → Type 0
    P = IsNewerPair ts' ts qs

    low : i < length ps
    low = slice_get_within ps i p (sym e)

    front : take i qs ≡ take i ps
    front = ap (take i) f ∙ take-append-le i ps rest (omega (arith, low))

    here : get_or qs i p ≡ p
    here = ap (λ l. get_or l i p) f ∙ get_or_append_left ps rest p i low ∙ get_or_from_slice_get ps i p p (sym e)

    more : length ps ≤ length (ps ++ rest)
    more = subst (λ l. length ps ≤ l) (sym (length-append ps rest)) (omega arith)

    inside : i < length qs
    inside = subst (λ l. i < length l) (sym f) (omega (arith, low, more))

-- all are
pub closed_all : (ts' ts : List Kind) (ps : List Pair) (i : ℕ) → length ps ≤ i → All (IsNewerPair ts' ts ps) (take i ps) → AreClosed ts' ts ps
closed_all ts' ts ps i l all = subst (λ x. All (IsNewerPair ts' ts ps) x) (take_all i ps l) all

-- where nothing is at a place, the list has ended
pub past : (ps : List Pair) (i : ℕ) → slice_get ps i ≡ None → length ps ≤ i
past [] i e = omega arith
past (p ∷ ps) zero e = absurd cc
past (p ∷ ps) (suc i) e = let l = past ps i e in omega (arith, l)
