use Rattle.rasn_constructed.proofs.write.write_alternative.Goals as goal

pub returns : goal.returns
returns g c = rw (g.met.C.Choice.is_choice g.C.AsnType.CONSTRAINTS) ((rw c.requires.tag at c.encode_alternative.ensures.before) c.requires.schema)
