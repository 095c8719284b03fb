-- Each pair of a closed list is newer, at every number of levels.
use Rattle.std.proofs.Common.{ℕ, zero, suc, List}
use Rattle.std.proofs.lemmas.List.Elements.{All-contains}
use Rattle.rasn_schema.specs.Schemas
use Rattle.rasn_schema.specs.Schemas.{Schema}
use Rattle.per_core.specs.Versions.{Newer, NewerType, unchanged}
use Rattle.rasn_dynamic.specs.declared.types.Kind.{Kind}
use Rattle.rasn_dynamic.specs.Types.{schema_at}
use Rattle.lawful_types.specs.declared.pairs.Pair.{Pair}
use Rattle.lawful_types.specs.OneLevel.{AreClosed, IsListed, IsNewerPair}
use Rattle.lawful_types.proofs.SameValues.{cut_keeps, schema_keeps}

pub closed_newer : (ts' ts : List Kind) (ps : List Pair) → AreClosed ts' ts ps → (n i j : ℕ) → IsListed ps i j → Newer (schema_at ts' i n) (schema_at ts j n)
unfolding schema_at
closed_newer ts' ts ps h zero i j l =
    All-contains (IsNewerPair ts' ts ps) ps (record { newer = i; older = j }) h l (λ k. Schemas.cut) (λ k. Schemas.cut) zero (record { newer = λ a b m. unchanged tt; newer_defaults = cut_keeps ts'; defaults = cut_keeps ts })
closed_newer ts' ts ps h (suc n) i j l =
    All-contains (IsNewerPair ts' ts ps) ps (record { newer = i; older = j }) h l (λ k. schema_at ts' k n) (λ k. schema_at ts k n) (suc n)
    (record { newer = λ a b m. closed_newer ts' ts ps h n a b m; newer_defaults = schema_keeps ts' n; defaults = schema_keeps ts n })

pub closed_type : (ts' ts : List Kind) (ps : List Pair) (i j : ℕ) → AreClosed ts' ts ps → IsListed ps i j → NewerType (schema_at ts' i) (schema_at ts j)
closed_type ts' ts ps i j h l = λ n. closed_newer ts' ts ps h n i j l
