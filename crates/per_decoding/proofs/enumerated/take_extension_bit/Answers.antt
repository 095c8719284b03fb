use Rattle.per_decoding.proofs.enumerated.take_extension_bit.Goals as goal

pub returns : goal.returns
returns c = rw c.if-not-extensible.false c.take_bit.ensures
