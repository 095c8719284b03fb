use Rattle.std.proofs.Common.{◌≡◌, suc, map}
use Rattle.rasn_schema.specs.Forms.{is_size_marked, size_of}
use Rattle.rasn_constructed.proofs.read.VecWraps.decode_wrapped.Given as goal

-- the elements that were read are of one of the trees of their type
abbrev pub invariant-loop-values : goal.invariant-loop-values
invariant-loop-values g l =
    let t = g.T.AsnType in
    let d = g.D.Decoder in
    record {
      deeper : d.rules.levels l.fn.decoder ≡ suc (d.rules.levels l.decoder);
      amid : d.amid_elements (t.schema t.CONSTRAINTS (d.rules.levels l.decoder)) (size_of l.constraints) (is_size_marked l.constraints) l.fn.decoder (map t.value l.values.items) l.list l.decoder;
      kept : d.rules.codec l.decoder ≡ d.rules.codec l.fn.decoder;
    }

abbrev pub decreases-loop-values : goal.decreases-loop-values
decreases-loop-values g l = g.D.Decoder.most l.list
