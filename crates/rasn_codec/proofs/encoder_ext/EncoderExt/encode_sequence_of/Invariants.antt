use Rattle.rasn_schema.specs.Forms.{is_size_marked, size_of}
use Rattle.rasn_codec.proofs.Elements.{Amidst, lists}
use Rattle.rasn_codec.proofs.encoder_ext.EncoderExt.encode_sequence_of.Given as goal

abbrev pub invariant-loop-value : goal.invariant-loop-value
invariant-loop-value g l =
    let t = g.T.AsnType in
    Amidst lists g.Self.Encoder.rules g.Self.Encoder.amid_elements (t.schema t.CONSTRAINTS) (size_of l.constraints) (is_size_marked l.constraints) t.levels t.value l.values l.fn.self l.value-index l.list l.self
