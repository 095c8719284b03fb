use Rattle.rasn_schema.specs.Forms.{is_size_marked, size_of}
use Rattle.rasn_codec.proofs.Elements.{Amidst}
use Rattle.rasn_sets.proofs.Members.{bags}
use Rattle.rasn_sets.proofs.codec.SetOfEncoder.encode_set_of.Given as goal

abbrev pub invariant-loop-member : goal.invariant-loop-member
invariant-loop-member g l =
    let t = g.T.AsnType in
    Amidst bags g.Self.Encoder.rules g.Self.Encoder.amid_members (t.schema t.CONSTRAINTS) (size_of l.constraints) (is_size_marked l.constraints) t.levels t.value l.members l.fn.self l.member-index l.bag l.self
