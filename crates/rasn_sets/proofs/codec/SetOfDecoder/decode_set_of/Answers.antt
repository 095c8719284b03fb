use Rattle.std.proofs.Common.{rules}
use Rattle.std.proofs.lemmas.Result.{err_from_is_err_and}
use Rattle.rasn_schema.specs.Forms.{is_size_marked, size_of}
use Rattle.rasn_sets.proofs.Reading.{bag_answered, bag_refused}
use Rattle.rasn_sets.proofs.codec.SetOfDecoder.decode_set_of.Goals as goal

pub returns-in_err-members : goal.returns-in_err-members
returns-in_err-members g c =
    let p = err_from_is_err_and c.from_residual.result c.from_residual.ensures.1 in
    record {
      law = rw (p.1, p.2) (bag_refused g.Self.Decoder.rules g.met.Self.Decoder.bags (g.D.AsnType.schema g.D.AsnType.CONSTRAINTS) (size_of c.args.constraints.now) (is_size_marked c.args.constraints.now) c.args.self.now (g.Self.Decoder.rules.levels c.args.self.now) _ c.in_err-members.ensures.law);
      behaves = search rules;
    }

pub returns : goal.returns
returns g c =
    record {
      law = rw c.from_vec.ensures (bag_answered g.Self.Decoder.rules g.met.Self.Decoder.bags (g.D.AsnType.schema g.D.AsnType.CONSTRAINTS) (size_of c.args.constraints.now) (is_size_marked c.args.constraints.now) c.args.self.now (g.Self.Decoder.rules.levels c.args.self.now) _ c.decode_sequence_of.new.self c.in_ok-members.ensures.law);
      behaves = search rules;
    }
