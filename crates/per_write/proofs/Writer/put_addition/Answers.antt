use Rattle.std.proofs.Common.{◌∙◌, ap, sym}
use Rattle.per_pieces.specs.Pieces.{Pieces, placed_bits}
use Rattle.per_write.specs.WriterState.{Additions, WriterState}
use Rattle.per_write.proofs.RecordsClosed.{first_put}
use Rattle.per_write.proofs.Writer.put_addition.Goals as goal

pub returns : goal.returns
returns g c =
    first_put c.args.additions _ c.args.before c.replace.new.dest c.args.self.now c.unless_out_of_memory-2.new.self c.in_ok-contents.contents c.in_ok-additions-inside.field-0
    (sym (ap (λ (k : Additions). k.opens) c.additions.view_is) ∙ c.is_empty.ensures.0 c.if-not-is_empty.false)
    (c.in_ok-additions-inside.ensures.kept ∙ c.in_ok-contents.ensures.kept ∙ ap (λ (s : WriterState). record s { pieces = c.replace.new.dest }) c.self.view_is) c.replace.ensures.after
    ((rw c.in_ok-contents.ensures.ok at c.into_placed-contents.ensures) ∙ ap (λ (q : Pieces). placed_bits q.list 0) c.replace.ensures.value ∙ ap (λ (s : WriterState). placed_bits s.pieces.list 0) c.self.view_is)
    (rw c.in_ok-additions-inside.ensures.ok at c.into_short_open_type-opens.ensures)
    (ap (λ (k : Additions). record k { opens = c.in_ok-additions-inside.field-0 }) c.additions.view_is)
