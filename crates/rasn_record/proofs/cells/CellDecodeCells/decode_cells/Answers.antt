use Rattle.std.proofs.lemmas.Result.{err_from_is_err_and}
use Rattle.rasn_schema.specs.Fields.{shape_of}
use Rattle.rasn_record.proofs.RestOfLists.{behind-map}
use Rattle.rasn_record.proofs.FirstOnSide.{first_read, first_unread, next_unread}
use Rattle.rasn_record.proofs.cells.CellDecodeCells.decode_cells.Goals as goal

pub returns-in_err-value : goal.returns-in_err-value
returns-in_err-value g c =
    let p = err_from_is_err_and c.from_residual.result c.from_residual.ensures.1 in
    rw (p.1, p.2) (first_unread g.met.D.Decoder.lawful _ _ _ _ _ _ g.S.DecodeSide.side _ _ _ c.in_err-value.ensures)

pub returns-in_err-next : goal.returns-in_err-next
returns-in_err-next g c =
    let p = err_from_is_err_and c.from_residual-in_err-next.result c.from_residual-in_err-next.ensures.1 in
    let b = rw (c.behind.ensures, c.behind-2.ensures, ← behind-map shape_of c.args.fields.now) at c.in_err-next.ensures in
    rw (p.1, p.2) (next_unread g.met.D.Decoder.lawful _ _ _ _ _ _ g.S.DecodeSide.side _ _ _ _ _ _ c.in_ok-value.ensures b)

pub returns : goal.returns
returns g c =
    let b = rw (c.behind.ensures, c.behind-2.ensures, ← behind-map shape_of c.args.fields.now) at c.in_ok-next.ensures in
    first_read g.met.D.Decoder.lawful _ _ _ _ _ _ g.S.DecodeSide.side _ _ _ _ _ c.in_ok-value.ensures b
