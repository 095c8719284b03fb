-- Nest ::= SEQUENCE { inner Nest OPTIONAL }
use Rattle.std.specs.Prelude.{◌≡◌, ℕ, zero, suc}
use Rattle.std.specs.Prelude.{List, [], ◌∷◌, Option, Some, None, false, refl}
use Rattle.rasn_below.specs.Page.{Value, sequence_value, at, TypeLists, own_tags}
use Rattle.rasn_below.specs.Types.{Schema, listed, no_parts, part, Levelled, no_level, to_sequence, to_part}
use Rattle.rasn_below.specs.Types.{to_no_parts, sequence_at}
use Rattle.rasn_below.specs.Types
use Rattle.per_samples_c.specs.declared.nest.Nest.{Nest, Nest', Held-Nest-inner, None', Some'}

-- to a number of levels
abbrev pub nest_schema : ℕ → Schema
nest_schema zero = Types.cut
nest_schema (suc n) = Schema.sequence listed (part (at 0) Types.optional (nest_schema n) no_parts) false no_parts

pub nest_levelled : Levelled nest_schema
nest_levelled zero = no_level tt
nest_levelled (suc n) = to_sequence (to_part (nest_levelled n) to_no_parts) to_no_parts

abbrev pub nest : TypeLists
nest = own_tags (record {
  tags = at 0;
  presence = Types.optional;
  schema = nest_schema;
  levelled = nest_levelled;
  fits = λ n. refl;
} ∷ [])

-- the trees are those of its components
pub nest_is_sequence : (n : ℕ) → sequence_at nest n ≡ nest_schema n
nest_is_sequence zero = refl
nest_is_sequence (suc n) = refl

-- what the component is
abbrev mutual
  pub nest_contents : Nest → List (Option Value)
  nest_contents (Nest' inner) = inner_content inner ∷ []

  pub inner_content : Held-Nest-inner → Option Value
  inner_content None' = None
  inner_content (Some' p n) = Some (sequence_value (nest_contents n))

-- how many levels it takes
abbrev mutual
  pub nest_depth : Nest → ℕ
  nest_depth (Nest' inner) = inner_depth inner

  pub inner_depth : Held-Nest-inner → ℕ
  inner_depth None' = 0
  inner_depth (Some' p n) = suc (nest_depth n)
