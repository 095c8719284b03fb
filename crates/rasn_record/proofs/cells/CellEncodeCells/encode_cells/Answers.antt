use Rattle.std.proofs.lemmas.Result.{err_from_is_err_and}
use Rattle.rasn_schema.specs.Fields.{shape_of}
use Rattle.rasn_record.proofs.RestOfLists.{behind-map}
use Rattle.rasn_record.proofs.FirstOnSide.{first_refused, first_written}
use Rattle.rasn_record.proofs.cells.CellEncodeCells.encode_cells.Goals as goal

pub returns-in_err-write_first : goal.returns-in_err-write_first
returns-in_err-write_first g c =
    let p = err_from_is_err_and c.from_residual.result c.from_residual.ensures.1 in
    rw (p.1, p.2) (first_refused g.S.EncodeSide.side _ _ _ _ _ _ _ _ c.write_first.new.encoder _ _ _ (g.met.C.EncodeComponent.is_component c.args.self.now.component) c.in_err-write_first.ensures)

pub returns : goal.returns
returns g c =
    let next = rw (c.behind.ensures, c.behind-2.ensures, ← behind-map shape_of c.args.fields.now) at c.encode_cells.ensures in
    first_written g.S.EncodeSide.side g.met.E.Encoder.lawful _ _ _ _ _ _ _ _ _ _ _ (g.met.C.EncodeComponent.is_component c.args.self.now.component) c.in_ok-write_first.ensures c.encode_cells.result c.encode_cells.new.encoder next
