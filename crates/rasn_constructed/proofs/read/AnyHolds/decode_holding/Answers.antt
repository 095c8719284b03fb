use Rattle.rasn_constructed.proofs.read.AnyHolds.decode_holding.Goals as goal

pub returns : goal.returns
returns g c = rw (g.met.C.Choice.is_choice g.C.AsnType.CONSTRAINTS) c.choice.ensures
