use Rattle.rasn_record.proofs.BothRead.{fields_taken_as, plainly_taken}
use Rattle.rasn_record.proofs.read.plain.Goals as goal

pub returns : goal.returns
returns g c = fields_taken_as (λ n. (c.requires n).0) (λ n. (c.requires n).1)
    (plainly_taken g.met.D.Decoder.lawful (rw c.root.ensures at c.decode_cells.ensures))
