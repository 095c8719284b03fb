use Rattle.rasn_constructed.proofs.read.first.Goals as goal

pub returns : goal.returns
returns g c = record {
  law = rw (c.given_or_own-in_use.ensures, c.CONSTRAINTS.ensures) at c.decode_component.ensures.law;
  behaves = c.decode_component.ensures.behaves;
}
