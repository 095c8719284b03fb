-- What is written of a Filter, by the alternative that it is.
use Rattle.std.proofs.Common.{◌≡◌, refl, ap, sym, ◌∙◌, subst, ℕ, max, List, [], ◌∷◌, map, Result}
use Rattle.rasn_below.specs.Page.{Value}
use Rattle.rasn_below.specs.Types.{alternatives_at, deepest}
use Rattle.rasn_traits.specs.Calls.{EncoderRules, Encodes}
use Rattle.per_samples_c.specs.Filters.{alternative_of, filter, filter_is_choice, filter_levels, filter_schema, filter_value, levels_of}
use Rattle.per_samples_c.specs.declared.filter.Filter.{Filter, Filter-F, map-Filter, fold-roll-Filter}
use Rattle.per_samples_c.specs.declared.filter.Filter.TheViews.{roll-Filter}

-- how deep the filters of a list are
pub deepest_of : {A : Type 0} (levels : A → ℕ) (xs : List A) → deepest (λ n. n) (map levels xs) ≡ deepest levels xs
deepest_of levels [] = refl
deepest_of levels (x ∷ xs) = ap (max (levels x)) (deepest_of levels xs)

-- what is written of the choice of its alternatives is written of a filter
pub written : {E X : Type 0} (rules : EncoderRules E X) (x : Filter) (f : Filter-F Filter) (k : ℕ) (a : X) (r : Result (Unit {0}) E) (b : X)
    → x ≡ roll-Filter f → k ≡ levels_of (map-Filter Filter ℕ filter_levels f)
    → Encodes rules (alternatives_at filter.before filter.behind) k (alternative_of (map-Filter Filter Value filter_value f)) a r b
    → Encodes rules filter_schema (filter_levels x) (filter_value x) a r b
written rules x f k a r b e l h =
    let choice = alternatives_at filter.before filter.behind in
    let levels : filter_levels x ≡ k = ap filter_levels e ∙ fold-roll-Filter ℕ levels_of f ∙ sym l in
    let value : filter_value x ≡ alternative_of (map-Filter Filter Value filter_value f) = ap filter_value e ∙ fold-roll-Filter Value alternative_of f in
    subst (λ s. Encodes rules s (filter_levels x) (filter_value x) a r b) (sym filter_is_choice)
    (subst (λ n. Encodes rules choice n (filter_value x) a r b) (sym levels)
    (subst (λ v. Encodes rules choice k v a r b) (sym value) h))
