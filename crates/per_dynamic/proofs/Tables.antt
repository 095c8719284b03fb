-- The schemas of the places of a table, as families to levels.
use Rattle.std.proofs.Common.{ℕ, List}
use Rattle.rasn_schema.specs.Levels.{Levelled}
use Rattle.rasn_dynamic.specs.declared.types.Kind.{Kind}
use Rattle.rasn_dynamic.specs.Types.{schema_at}
use Rattle.rasn_dynamic.proofs.Levelled.{schema_levels}

pub levels : (ts : List Kind) (i : ℕ) → Levelled (schema_at ts i)
levels ts i = λ n. schema_levels ts n i
