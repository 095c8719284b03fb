use Rattle.std.proofs.Common.{rules, Err}
use Rattle.std.proofs.lemmas.Result.{err_from_is_err_and}
use Rattle.rasn_schema.specs.Fields.{shape_of}
use Rattle.rasn_record.proofs.RestOfLists.{after_four, four-map}
use Rattle.rasn_record.proofs.Slots.{next_refused, next_written}
use Rattle.rasn_record.proofs.fours.FourCellsEncodeCellsRoot.encode_cells.Goals as goal

pub returns-in_err-write_first : goal.returns-in_err-write_first
returns-in_err-write_first g c =
    let p = err_from_is_err_and c.from_residual.result c.from_residual.ensures.1 in
    let first = c.in_err-write_first.ensures.law in
    record { law = rw (p.1, p.2) (next_refused _ _ _ _ _ _ _ c.write_first.new.encoder _ _ _ (g.met.A.EncodeComponent.is_component c.args.self.now.first) first); fails = search rules; kept = search rules }

pub returns-in_err-write_first-2 : goal.returns-in_err-write_first-2
returns-in_err-write_first-2 g c =
    let p = err_from_is_err_and c.from_residual-in_err-write_first-2.result c.from_residual-in_err-write_first-2.ensures.1 in
    let first = c.in_ok-write_first.ensures.law in
    let second = rw (c.behind-constraints_2.ensures) at c.in_err-write_first-2.ensures.law in
    record { law = rw (p.1, p.2) (next_written g.met.E.Encoder.lawful _ _ _ _ _ _ _ _ _ _ (g.met.A.EncodeComponent.is_component c.args.self.now.first) first (Err c.in_err-write_first-2.field-0.0) c.write_first-2.new.encoder (next_refused _ _ _ _ _ _ _ c.write_first-2.new.encoder _ _ _ (g.met.B.EncodeComponent.is_component c.args.self.now.second) second)); fails = search rules; kept = search rules }

pub returns-in_err-write_first-3 : goal.returns-in_err-write_first-3
returns-in_err-write_first-3 g c =
    let p = err_from_is_err_and c.from_residual-in_err-write_first-3.result c.from_residual-in_err-write_first-3.ensures.1 in
    let first = c.in_ok-write_first.ensures.law in
    let second = rw (c.behind-constraints_2.ensures) at c.in_ok-write_first-2.ensures.law in
    let third = rw (c.behind-constraints_3.ensures, c.behind-constraints_2.ensures) at c.in_err-write_first-3.ensures.law in
    record { law = rw (p.1, p.2) (next_written g.met.E.Encoder.lawful _ _ _ _ _ _ _ _ _ _ (g.met.A.EncodeComponent.is_component c.args.self.now.first) first (Err c.in_err-write_first-3.field-0.0) c.write_first-3.new.encoder (next_written g.met.E.Encoder.lawful _ _ _ _ _ _ _ _ _ _ (g.met.B.EncodeComponent.is_component c.args.self.now.second) second (Err c.in_err-write_first-3.field-0.0) c.write_first-3.new.encoder (next_refused _ _ _ _ _ _ _ c.write_first-3.new.encoder _ _ _ (g.met.C.EncodeComponent.is_component c.args.self.now.third) third))); fails = search rules; kept = search rules }

pub returns-in_err-write_first-4 : goal.returns-in_err-write_first-4
returns-in_err-write_first-4 g c =
    let p = err_from_is_err_and c.from_residual-in_err-write_first-4.result c.from_residual-in_err-write_first-4.ensures.1 in
    let first = c.in_ok-write_first.ensures.law in
    let second = rw (c.behind-constraints_2.ensures) at c.in_ok-write_first-2.ensures.law in
    let third = rw (c.behind-constraints_3.ensures, c.behind-constraints_2.ensures) at c.in_ok-write_first-3.ensures.law in
    let fourth = rw (c.behind-constraints_4.ensures, c.behind-constraints_3.ensures, c.behind-constraints_2.ensures) at c.in_err-write_first-4.ensures.law in
    record { law = rw (p.1, p.2) (next_written g.met.E.Encoder.lawful _ _ _ _ _ _ _ _ _ _ (g.met.A.EncodeComponent.is_component c.args.self.now.first) first (Err c.in_err-write_first-4.field-0.0) c.write_first-4.new.encoder (next_written g.met.E.Encoder.lawful _ _ _ _ _ _ _ _ _ _ (g.met.B.EncodeComponent.is_component c.args.self.now.second) second (Err c.in_err-write_first-4.field-0.0) c.write_first-4.new.encoder (next_written g.met.E.Encoder.lawful _ _ _ _ _ _ _ _ _ _ (g.met.C.EncodeComponent.is_component c.args.self.now.third) third (Err c.in_err-write_first-4.field-0.0) c.write_first-4.new.encoder (next_refused _ _ _ _ _ _ _ c.write_first-4.new.encoder _ _ _ (g.met.D.EncodeComponent.is_component c.args.self.now.fourth) fourth)))); fails = search rules; kept = search rules }

pub returns : goal.returns
returns g c =
    let first = c.in_ok-write_first.ensures.law in
    let second = rw (c.behind-constraints_2.ensures) at c.in_ok-write_first-2.ensures.law in
    let third = rw (c.behind-constraints_3.ensures, c.behind-constraints_2.ensures) at c.in_ok-write_first-3.ensures.law in
    let fourth = rw (c.behind-constraints_4.ensures, c.behind-constraints_3.ensures, c.behind-constraints_2.ensures) at c.in_ok-write_first-4.ensures.law in
    let next = rw (after_four c.args.constraints.now c.behind-constraints_2.ensures c.behind-constraints_3.ensures c.behind-constraints_4.ensures c.behind-constraints_5.ensures, four-map shape_of c.args.fields.now c.behind-fields_2.ensures c.behind-fields_3.ensures c.behind-fields_4.ensures c.behind-fields_5.ensures) at c.encode_cells.ensures.law in
    record { law = next_written g.met.E.Encoder.lawful _ _ _ _ _ _ _ _ _ _ (g.met.A.EncodeComponent.is_component c.args.self.now.first) first c.encode_cells.result c.encode_cells.new.encoder (next_written g.met.E.Encoder.lawful _ _ _ _ _ _ _ _ _ _ (g.met.B.EncodeComponent.is_component c.args.self.now.second) second c.encode_cells.result c.encode_cells.new.encoder (next_written g.met.E.Encoder.lawful _ _ _ _ _ _ _ _ _ _ (g.met.C.EncodeComponent.is_component c.args.self.now.third) third c.encode_cells.result c.encode_cells.new.encoder (next_written g.met.E.Encoder.lawful _ _ _ _ _ _ _ _ _ _ (g.met.D.EncodeComponent.is_component c.args.self.now.fourth) fourth c.encode_cells.result c.encode_cells.new.encoder next))); fails = search rules; kept = search rules }
