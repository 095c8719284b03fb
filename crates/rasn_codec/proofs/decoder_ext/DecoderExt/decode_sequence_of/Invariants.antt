use Rattle.std.proofs.Common.{◌≡◌, suc, map}
use Rattle.rasn_schema.specs.Forms.{is_size_marked, size_of}
use Rattle.rasn_codec.proofs.decoder_ext.DecoderExt.decode_sequence_of.Given as goal

-- the elements that were read are of one of the trees of their type
abbrev pub invariant-loop-values : goal.invariant-loop-values
invariant-loop-values g l =
    let t = g.D.AsnType in
    let d = g.Self.Decoder in
    record {
      deeper : d.rules.levels l.fn.self ≡ suc (d.rules.levels l.self);
      amid : d.amid_elements (t.schema t.CONSTRAINTS (d.rules.levels l.self)) (size_of l.constraints) (is_size_marked l.constraints) l.fn.self (map t.value l.values.items) l.list l.self;
      kept : d.rules.codec l.self ≡ d.rules.codec l.fn.self;
    }

abbrev pub decreases-loop-values : goal.decreases-loop-values
decreases-loop-values g l = g.Self.Decoder.most l.list
