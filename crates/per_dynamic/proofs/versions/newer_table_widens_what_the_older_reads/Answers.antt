use Rattle.per_laws.proofs.Readers.{known_is_read}
use Rattle.rasn_types.specs.Variants.{variant_of}
use Rattle.rasn_dynamic.specs.Types.{schema_at}
use Rattle.rasn_dynamic.specs.Values.{value_of}
use Rattle.rasn_per.specs.Calls.{reading}
use Rattle.per_versions.proofs.Laws
use Rattle.per_dynamic.proofs.Tables.{levels}
use Rattle.per_dynamic.proofs.versions.newer_table_widens_what_the_older_reads.Goals as goal

pub returns-clause-answers : goal.returns-clause-answers
returns-clause-answers c =
    let ts' = c.args.newer.now.kinds.items in let ts = c.args.older.now.kinds.items in let i = c.args.place in let j = c.args.old_place in
    let new = schema_at ts' i in let old = schema_at ts j in let f = levels ts' i in let g = levels ts j in
    λ k strict codec octets x answer h d. Laws.answered strict codec new value_of octets answer _ d (Laws.newer_widens (reading strict (variant_of codec)) new old f g k (value_of x) octets h)

pub returns-clause-known : goal.returns-clause-known
returns-clause-known c =
    let ts' = c.args.newer.now.kinds.items in let ts = c.args.older.now.kinds.items in let i = c.args.place in let j = c.args.old_place in
    let new = schema_at ts' i in let old = schema_at ts j in let f = levels ts' i in let g = levels ts j in
    λ k strict codec octets x y h w. Laws.stays_known (reading strict (variant_of codec)) new old f g k (value_of x) (value_of y) octets h w

pub returns-clause-projects_back : goal.returns-clause-projects_back
returns-clause-projects_back c =
    let ts' = c.args.newer.now.kinds.items in let ts = c.args.older.now.kinds.items in let i = c.args.place in let j = c.args.old_place in
    let new = schema_at ts' i in let old = schema_at ts j in let f = levels ts' i in let g = levels ts j in
    λ k strict codec octets x y h d.
    let a = reading strict (variant_of codec) in (Laws.older_projects a new old f g k (value_of y) octets d.ok.are_read (value_of x)).0 (known_is_read a (old 128) (value_of x) octets h)
