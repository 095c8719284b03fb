use Rattle.per_versions.proofs.Depths.{projection_at, widening_at}
use Rattle.rasn_dynamic.specs.Types.{schema_at}
use Rattle.per_dynamic.proofs.Tables.{levels}
use Rattle.per_dynamic.proofs.versions.version_of_a_value_is_one_at_all_depths.Goals as goal

pub returns : goal.returns
returns c =
    let ts' = c.args.newer.now.kinds.items in let ts = c.args.older.now.kinds.items in let i = c.args.place in let j = c.args.old_place in
    let new = schema_at ts' i in let old = schema_at ts j in let f = levels ts' i in let g = levels ts j in
    λ k v w n h. (projection_at new old f g k v w n h, widening_at new old f g k v w n h)
