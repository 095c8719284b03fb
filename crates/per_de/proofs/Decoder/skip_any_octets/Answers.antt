use Rattle.std.proofs.Common.{◌∙◌, ap, length}
use Rattle.rasn_schema.specs.Forms.{size_of, is_size_marked}
use Rattle.per_de.proofs.Lending.{skip_refused}
use Rattle.per_de.proofs.Decoder.skip_any_octets.Goals as goal

pub returns-in-Err : goal.returns-in-Err
returns-in-Err c = record {
  ok = tt;
  stays = tt;
  err = skip_refused c.args.self.now (size_of c.args.constraints.now) (is_size_marked c.args.constraints.now) c.len-left.result c.reader-reader.ensures (c.len-left.ensures ∙ ap length c.bits.ensures)
      c.requires c.refuse.new.self c.in-Err.kind c.refuse.result c.in-Err.ensures c.refuse.ensures.error c.refuse.ensures.state;
}
