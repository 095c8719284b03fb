use Rattle.std.proofs.Common.{◌∙◌, ap, false, replicate, rules}
use Rattle.per_pieces.specs.Pieces.{bit_count, with_bits}
use Rattle.per_write.specs.WriterState.{WriterState}
use Rattle.per_write.proofs.RecordsClosed.{record_opened}
use Rattle.per_write.proofs.Writer.open_record.Goals as goal

pub returns : goal.returns
returns g c = record {
  ok = record_opened c.args.presences c.args.additions c.args.self.now c.keep_additions.new.self _ c.enter.new.self c.push_zeros-zeros.new.self c.len-place.result c.in_ok-kept.kept c.enter.result c.requires c.in_ok-kept.ensures.same c.in_ok-kept.ensures.ok
      ((rw c.in_ok-unless_out_of_memory.ensures.ok at c.push_zeros-zeros.ensures) ∙ ap (λ (s : WriterState). with_bits s.pieces (replicate c.args.presences false)) c.self.view_is)
      (c.in_ok-unless_out_of_memory.ensures.kept ∙ ap (λ (s : WriterState). record s { pieces = c.push_zeros-zeros.new.self }) c.self.view_is) (c.len-place.ensures ∙ ap (λ (s : WriterState). bit_count s.pieces.list) c.self.view_is) c.enter.ensures.waits c.enter.ensures.inside;
  err = search rules;
  fails = search rules;
  kept = search rules;
}
