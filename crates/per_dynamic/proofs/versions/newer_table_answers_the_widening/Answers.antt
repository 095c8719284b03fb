use Rattle.rasn_types.specs.Variants.{variant_of}
use Rattle.rasn_dynamic.specs.Types.{schema_at}
use Rattle.rasn_dynamic.specs.Values.{levels_of, value_of}
use Rattle.rasn_per.specs.Calls.{reading}
use Rattle.per_versions.proofs.Laws
use Rattle.per_dynamic.proofs.Tables.{levels}
use Rattle.per_dynamic.proofs.versions.newer_table_answers_the_widening.Goals as goal

pub returns : goal.returns
returns c =
    let ts' = c.args.newer.now.kinds.items in let ts = c.args.older.now.kinds.items in let i = c.args.place in let j = c.args.old_place in
    let new = schema_at ts' i in let old = schema_at ts j in let f = levels ts' i in let g = levels ts j in
    λ k strict codec x octets answer h d. Laws.answered strict codec new value_of octets answer _ d (Laws.newer_reads (reading strict (variant_of codec)) new old f g k (levels_of x) (value_of x) octets h)
