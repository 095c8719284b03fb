use Rattle.std.proofs.Common.{◌∙◌, refl, sym, length}
use Rattle.std.proofs.lemmas.Option.{slice_get_read}
use Rattle.per_dynamic.proofs.FirstNamed.{named_here, named_in_front}
use Rattle.per_dynamic.proofs.rows.first_named.Goals as goal

pub returns-in-Some : goal.returns-in-Some
returns-in-Some c =
    let there = slice_get_read c.args.rows.now (length c.args.rows.now) c.args.index c.in_ok-row.row.now refl c.in_ok-row.ensures.lookup.3.0 c.in_ok-row.ensures.lookup.1 in
    let q = sym c.index_named.ensures ∙ c.in-Some.is in
    c.of_one_type.ensures ∙ named_in_front c.args.rows.now c.args.index c.in_ok-row.row.now there c.in-Some.before
    (rw (c.split_at.ensures.front, c.deref.ensures) at q)

pub returns-in-None : goal.returns-in-None
returns-in-None c =
    let there = slice_get_read c.args.rows.now (length c.args.rows.now) c.args.index c.in_ok-row.row.now refl c.in_ok-row.ensures.lookup.3.0 c.in_ok-row.ensures.lookup.1 in
    let q = sym c.index_named.ensures ∙ c.in-None.is in
    named_here c.args.rows.now c.args.index c.in_ok-row.row.now there (rw (c.split_at.ensures.front, c.deref.ensures) at q)
