-- Dnest ::= SEQUENCE { inner Dnest OPTIONAL, d DATE OPTIONAL }
use Rattle.std.specs.Prelude.{◌≡◌, ℕ, zero, suc}
use Rattle.std.specs.Prelude.{max, List, [], ◌∷◌, Option, Some, None, false, refl}
use Rattle.rasn_below.specs.Page.{Value, sequence_value, slot_of, slot_levels, Component, at, optional, under, date}
use Rattle.rasn_below.specs.Page.{TypeLists, own_tags}
use Rattle.rasn_below.specs.Times.{date_value}
use Rattle.rasn_below.specs.Types.{Schema, listed, no_parts, part, Levelled, no_level, to_sequence, to_part}
use Rattle.rasn_below.specs.Types.{to_no_parts, sequence_at, date_at, date_levelled}
use Rattle.rasn_below.specs.Types
use Rattle.per_samples_sets.specs.declared.dnest.Dnest.{Dnest, Dnest', Held-Dnest-inner, None', Some'}

-- to a number of levels
abbrev pub dnest_schema : ℕ → Schema
dnest_schema zero = Types.cut
dnest_schema (suc n) = Schema.sequence listed (part (at 0) Types.optional (dnest_schema n)
    (part (at 1) Types.optional (date_at n) no_parts)) false no_parts

pub dnest_levelled : Levelled dnest_schema
dnest_levelled zero = no_level tt
dnest_levelled (suc n) = to_sequence (to_part (dnest_levelled n) (to_part (date_levelled n) to_no_parts)) to_no_parts

abbrev pub inner_component : Component
inner_component = record {
  tags = at 0;
  presence = Types.optional;
  schema = dnest_schema;
  levelled = dnest_levelled;
  fits = λ n. refl;
}

abbrev pub dnest : TypeLists
dnest = own_tags (inner_component ∷ under (at 1) (optional date) ∷ [])

-- the trees are those of its components
pub dnest_is_sequence : (n : ℕ) → sequence_at dnest n ≡ dnest_schema n
dnest_is_sequence zero = refl
dnest_is_sequence (suc n) = refl

-- what the components are
abbrev mutual
  pub dnest_contents : Dnest → List (Option Value)
  dnest_contents (Dnest' inner d) = inner_content inner ∷ slot_of date_value d ∷ []

  pub inner_content : Held-Dnest-inner → Option Value
  inner_content None' = None
  inner_content (Some' p n) = Some (sequence_value (dnest_contents n))

-- how many levels they take
abbrev mutual
  pub dnest_depth : Dnest → ℕ
  dnest_depth (Dnest' inner d) = max (inner_depth inner) (max (slot_levels (λ _. 2) d) 0)

  pub inner_depth : Held-Dnest-inner → ℕ
  inner_depth None' = 0
  inner_depth (Some' p n) = suc (dnest_depth n)
