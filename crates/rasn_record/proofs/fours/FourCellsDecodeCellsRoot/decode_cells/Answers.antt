use Rattle.std.proofs.Common.{◌∙◌, rules}
use Rattle.std.proofs.lemmas.Result.{err_from_is_err_and}
use Rattle.rasn_schema.specs.Fields.{shape_of}
use Rattle.rasn_traits.specs.Scopes.{reads_next}
use Rattle.rasn_traits.proofs.Reading.{fails_part, fails_after}
use Rattle.rasn_record.proofs.RestOfLists.{after_four, four-map, level_of}
use Rattle.rasn_record.proofs.fours.FourCellsDecodeCellsRoot.decode_cells.Goals as goal

pub returns-in_err-a : goal.returns-in_err-a
returns-in_err-a g c =
    let p = err_from_is_err_and c.from_residual.result c.from_residual.ensures.1 in
    let a = c.in_err-a.ensures.law in
    record { law = rw (p.1, p.2) (fails_part g.met.R.Decoder.lawful a); fails = search rules; kept = search rules }

pub returns-in_err-b : goal.returns-in_err-b
returns-in_err-b g c =
    let p = err_from_is_err_and c.from_residual-in_err-b.result c.from_residual-in_err-b.ensures.1 in
    let a = c.in_ok-a.ensures.law in
    let l1 = level_of g.met.R.Decoder.lawful a in
    let b = rw (c.behind-constraints_2.ensures, l1) at c.in_err-b.ensures.law in
    record { law = rw (p.1, p.2) (fails_after g.met.R.Decoder.lawful a (fails_part g.met.R.Decoder.lawful b)); fails = search rules; kept = search rules }

pub returns-in_err-c : goal.returns-in_err-c
returns-in_err-c g c =
    let p = err_from_is_err_and c.from_residual-in_err-c.result c.from_residual-in_err-c.ensures.1 in
    let a = c.in_ok-a.ensures.law in
    let l1 = level_of g.met.R.Decoder.lawful a in
    let b = rw (c.behind-constraints_2.ensures, l1) at c.in_ok-b.ensures.law in
    let l2 = level_of g.met.R.Decoder.lawful b ∙ l1 in
    let third = rw (c.behind-constraints_3.ensures, c.behind-constraints_2.ensures, l2) at c.in_err-c.ensures.law in
    record { law = rw (p.1, p.2) (fails_after g.met.R.Decoder.lawful a (fails_after g.met.R.Decoder.lawful b (fails_part g.met.R.Decoder.lawful third))); fails = search rules; kept = search rules }

pub returns-in_err-d : goal.returns-in_err-d
returns-in_err-d g c =
    let p = err_from_is_err_and c.from_residual-in_err-d.result c.from_residual-in_err-d.ensures.1 in
    let a = c.in_ok-a.ensures.law in
    let l1 = level_of g.met.R.Decoder.lawful a in
    let b = rw (c.behind-constraints_2.ensures, l1) at c.in_ok-b.ensures.law in
    let l2 = level_of g.met.R.Decoder.lawful b ∙ l1 in
    let third = rw (c.behind-constraints_3.ensures, c.behind-constraints_2.ensures, l2) at c.in_ok-c.ensures.law in
    let l3 = level_of g.met.R.Decoder.lawful third ∙ l2 in
    let d = rw (c.behind-constraints_4.ensures, c.behind-constraints_3.ensures, c.behind-constraints_2.ensures, l3) at c.in_err-d.ensures.law in
    record { law = rw (p.1, p.2) (fails_after g.met.R.Decoder.lawful a (fails_after g.met.R.Decoder.lawful b (fails_after g.met.R.Decoder.lawful third (fails_part g.met.R.Decoder.lawful d)))); fails = search rules; kept = search rules }

pub returns-in_err-rest : goal.returns-in_err-rest
returns-in_err-rest g c =
    let p = err_from_is_err_and c.from_residual-in_err-rest.result c.from_residual-in_err-rest.ensures.1 in
    let a = c.in_ok-a.ensures.law in
    let l1 = level_of g.met.R.Decoder.lawful a in
    let b = rw (c.behind-constraints_2.ensures, l1) at c.in_ok-b.ensures.law in
    let l2 = level_of g.met.R.Decoder.lawful b ∙ l1 in
    let third = rw (c.behind-constraints_3.ensures, c.behind-constraints_2.ensures, l2) at c.in_ok-c.ensures.law in
    let l3 = level_of g.met.R.Decoder.lawful third ∙ l2 in
    let d = rw (c.behind-constraints_4.ensures, c.behind-constraints_3.ensures, c.behind-constraints_2.ensures, l3) at c.in_ok-d.ensures.law in
    let l4 = level_of g.met.R.Decoder.lawful d ∙ l3 in
    let e = rw (after_four c.args.constraints.now c.behind-constraints_2.ensures c.behind-constraints_3.ensures c.behind-constraints_4.ensures c.behind-constraints_5.ensures, four-map shape_of c.args.fields.now c.behind-fields_2.ensures c.behind-fields_3.ensures c.behind-fields_4.ensures c.behind-fields_5.ensures, l4) at c.in_err-rest.ensures.law in
    record { law = rw (p.1, p.2) (fails_after g.met.R.Decoder.lawful a (fails_after g.met.R.Decoder.lawful b (fails_after g.met.R.Decoder.lawful third (fails_after g.met.R.Decoder.lawful d e)))); fails = search rules; kept = search rules }

pub returns : goal.returns
returns g c =
    let a = c.in_ok-a.ensures.law in
    let l1 = level_of g.met.R.Decoder.lawful a in
    let b = rw (c.behind-constraints_2.ensures, l1) at c.in_ok-b.ensures.law in
    let l2 = level_of g.met.R.Decoder.lawful b ∙ l1 in
    let third = rw (c.behind-constraints_3.ensures, c.behind-constraints_2.ensures, l2) at c.in_ok-c.ensures.law in
    let l3 = level_of g.met.R.Decoder.lawful third ∙ l2 in
    let d = rw (c.behind-constraints_4.ensures, c.behind-constraints_3.ensures, c.behind-constraints_2.ensures, l3) at c.in_ok-d.ensures.law in
    let l4 = level_of g.met.R.Decoder.lawful d ∙ l3 in
    let e = rw (after_four c.args.constraints.now c.behind-constraints_2.ensures c.behind-constraints_3.ensures c.behind-constraints_4.ensures c.behind-constraints_5.ensures, four-map shape_of c.args.fields.now c.behind-fields_2.ensures c.behind-fields_3.ensures c.behind-fields_4.ensures c.behind-fields_5.ensures, l4) at c.in_ok-rest.ensures.law in
    record { law = reads_next a (reads_next b (reads_next third (reads_next d e))); fails = search rules; kept = search rules }
