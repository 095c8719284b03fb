use Rattle.std.proofs.Common.{rules}
use Rattle.std.proofs.lemmas.Result.{err_from_is_err_and}
use Rattle.rasn_traits.specs.Scopes.{reads_next}
use Rattle.rasn_traits.proofs.Reading.{fails_part, fails_after, part_reads_well}
use Rattle.rasn_constructed.proofs.read.CellTaggedDecodeHoldingCells.decode_cells.Goals as goal

pub returns-in_err-value : goal.returns-in_err-value
returns-in_err-value g c =
    let p = err_from_is_err_and c.from_residual.result c.from_residual.ensures.1 in
    record { law = rw (p.1, p.2) (fails_part g.met.D.Decoder.lawful c.in_err-value.ensures.law); fails = search rules; kept = search rules }

pub decode_cells-requires : goal.decode_cells-requires
decode_cells-requires g c =
    let l = (part_reads_well g.met.D.Decoder.lawful _ _).level _ _ _ c.in_ok-value.ensures.law in rw l c.requires

pub returns-in_err-next : goal.returns-in_err-next
returns-in_err-next g c =
    let p = err_from_is_err_and c.from_residual-in_err-next.result c.from_residual-in_err-next.ensures.1 in
    let a = c.in_ok-value.ensures.law in
    let l = (part_reads_well g.met.D.Decoder.lawful _ _).level _ _ _ a in
    record { law = rw (p.1, p.2) (fails_after g.met.D.Decoder.lawful a (rw l at c.in_err-next.ensures.law)); fails = search rules; kept = search rules }

pub returns : goal.returns
returns g c =
    let a = c.in_ok-value.ensures.law in
    let l = (part_reads_well g.met.D.Decoder.lawful _ _).level _ _ _ a in
    record { law = reads_next a (rw l at c.in_ok-next.ensures.law); fails = search rules; kept = search rules }
