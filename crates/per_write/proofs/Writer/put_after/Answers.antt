use Rattle.std.proofs.Common.{◌∙◌, ap}
use Rattle.per_pieces.specs.Pieces.{Pieces, placed_bits}
use Rattle.per_write.specs.WriterState.{Additions, WriterState}
use Rattle.per_write.proofs.RecordsClosed.{contents_put}
use Rattle.per_write.proofs.Writer.put_after.Goals as goal

pub returns : goal.returns
returns g c =
    contents_put c.args.additions _ c.replace-before.new.dest c.replace.new.dest c.args.self.now _ c.put_open_type.new.self c.unless_out_of_memory.new.self
    c.args.contents c.in_ok-opens.opens c.additions.inside.opens c.requires
    (ap (λ (s : WriterState). record s { pieces = c.replace-before.new.dest }) c.self.view_is) (c.replace-before.ensures.after ∙ c.from_bits.ensures) (ap (λ (k : Additions). k.opens) c.additions.view_is)
    c.in_ok-put_open_type.ensures.ok
    ((rw c.in_ok-opens.ensures.ok at c.into_placed-opens.ensures) ∙ ap (λ (q : Pieces). placed_bits q.list 0) c.replace.ensures.value ∙ ap (λ (s : WriterState). placed_bits s.pieces.list 0) c.self-2.view_is)
    (c.in_ok-opens.ensures.kept ∙ ap (λ (s : WriterState). record s { pieces = c.replace.new.dest }) c.self-2.view_is)
    (c.replace.ensures.after ∙ c.replace-before.ensures.value ∙ ap (λ (s : WriterState). s.pieces) c.self.view_is)
    (ap (λ (k : Additions). record k { opens = c.in_ok-opens.opens }) c.additions.view_is)
