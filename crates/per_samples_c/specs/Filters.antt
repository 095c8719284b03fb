-- Filter ::= CHOICE { and SEQUENCE OF Filter, or SEQUENCE OF Filter, not Filter, present OCTET STRING }
use Rattle.std.specs.Prelude.{◌≡◌, ℕ, zero, suc, [], ◌∷◌, None, true, false, refl}
use Rattle.rasn_below.specs.Page.{Value, alternative, root, octets, list_value, Component, at, any, octet_string}
use Rattle.rasn_below.specs.Page.{sequence_of, TypeLists, automatic, root_parts, variants_listed}
use Rattle.rasn_below.specs.Types.{Schema, no_parts, part, any_size, deepest, choice_at, no_additions, EOC, tree_with}
use Rattle.rasn_below.specs.Types.{Levelled, no_level, to_leaf, to_list, to_choice, to_part, to_no_parts}
use Rattle.rasn_below.specs.Types.{IsTagOf, AreTagsOf}
use Rattle.rasn_below.specs.Types
use Rattle.per_samples_c.specs.declared.filter.Filter.{Filter}
use Rattle.per_samples_c.specs.declared.filter.Filter.TheOpen.{Filter-F}
use Rattle.per_samples_c.specs.declared.filter.Filter.TheFolds.{fold-Filter}

-- a filter, and a list of filters, to a number of levels
abbrev mutual
  pub filter_schema : ℕ → Schema
  filter_schema zero = Types.cut
  filter_schema (suc n) = Schema.choice (part (at 0) Types.required (filters_schema n)
      (part (at 1) Types.required (filters_schema n) (part (at 2) Types.required (filter_schema n)
      (part (at 3) Types.required ((octet_string any).schema n) no_parts)))) no_parts false

  pub filters_schema : ℕ → Schema
  filters_schema zero = Types.cut
  filters_schema (suc n) = Schema.list (filter_schema n) any_size false

mutual
  pub filter_levelled : Levelled filter_schema
  filter_levelled zero = no_level tt
  filter_levelled (suc n) = to_choice (to_part (filters_levelled n) (to_part (filters_levelled n)
      (to_part (filter_levelled n) (to_part (to_leaf tt) to_no_parts)))) to_no_parts

  filters_levelled : Levelled filters_schema
  filters_levelled zero = no_level tt
  filters_levelled (suc n) = to_list (filter_levelled n)

abbrev pub itself : Component
itself = record {
  tags = at 2;
  presence = Types.required;
  schema = filter_schema;
  levelled = filter_levelled;
  fits = λ n. refl;
}

abbrev pub filter : TypeLists
filter = automatic (sequence_of any itself ∷ sequence_of any itself ∷ itself ∷ octet_string any ∷ [])

choice_to : (n : ℕ) → filter_schema n ≡ choice_at (root_parts filter) None no_additions n
choice_to zero = refl
choice_to (suc zero) = refl
choice_to (suc (suc n)) = refl

-- the trees are those of its alternatives
pub filter_is_choice : filter_schema ≡ choice_at (root_parts filter) None no_additions
filter_is_choice = λ i n. choice_to n i

-- a choice has no tag of its own
pub filter_tag : IsTagOf EOC filter_schema
filter_tag zero = refl
filter_tag (suc n) = refl

pub filter_tree : AreTagsOf EOC (tree_with (variants_listed filter).before) true filter_schema
filter_tree zero = tt
filter_tree (suc n) = (refl, refl)

-- which alternative a filter is, by what the filters in it are
abbrev pub alternative_of : Filter-F Value → Value
alternative_of (Filter-F.And filters) = alternative root 0 (list_value filters.items)
alternative_of (Filter-F.Or filters) = alternative root 1 (list_value filters.items)
alternative_of (Filter-F.Not filter) = alternative root 2 filter.value
alternative_of (Filter-F.Present x) = alternative root 3 (octets x)

abbrev pub filter_value : Filter → Value
filter_value = fold-Filter Value alternative_of

-- how many levels it takes, by how many those in it take
abbrev pub levels_of : Filter-F ℕ → ℕ
levels_of (Filter-F.And filters) = suc (suc (deepest (λ n. n) filters.items))
levels_of (Filter-F.Or filters) = suc (suc (deepest (λ n. n) filters.items))
levels_of (Filter-F.Not filter) = suc filter.value
levels_of (Filter-F.Present x) = 1

abbrev pub filter_levels : Filter → ℕ
filter_levels = fold-Filter ℕ levels_of
