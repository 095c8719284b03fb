use Rattle.std.proofs.Common.{ap, ◌∙◌, false, replicate, rules}
use Rattle.rasn_types.specs.Variants.{variant_of}
use Rattle.per_pieces.specs.Pieces.{bit_count, with_bits}
use Rattle.per_write.specs.Choices.{index_width}
use Rattle.per_write.specs.WriterState.{WriterState}
use Rattle.per_write.proofs.Indexes.{index_opened}
use Rattle.per_write.proofs.Writer.open_index.Goals as goal

pub returns : goal.returns
returns g c = record {
  ok = index_opened c.args.count c.index_width.result c.args.self.now c.put_index_padding.new.self _ c.enter.new.self c.push_zeros-zeros.new.self c.len-place.result c.enter.result c.in_ok-put_index_padding.ensures.ok
      (c.index_width.ensures.width ∙ ap (λ s. index_width (variant_of s.codec) c.args.count) c.self.view_is)
      ((rw c.in_ok-unless_out_of_memory.ensures.ok at c.push_zeros-zeros.ensures) ∙ ap (λ (s : WriterState). with_bits s.pieces (replicate c.index_width.result false)) c.self.view_is)
      (c.in_ok-unless_out_of_memory.ensures.kept ∙ ap (λ (s : WriterState). record s { pieces = c.push_zeros-zeros.new.self }) c.self.view_is)
      (c.len-place.ensures ∙ ap (λ (s : WriterState). bit_count s.pieces.list) c.self.view_is) c.enter.ensures.waits c.enter.ensures.inside;
  err = search rules;
  fails = search rules;
  kept = search rules;
}
