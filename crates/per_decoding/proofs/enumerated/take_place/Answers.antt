use Rattle.per_decoding.proofs.enumerated.take_place.Goals as goal

pub returns-then-extended : goal.returns-then-extended
returns-then-extended c = rw c.if-extended.true c.take_small.ensures

pub returns-else-extended : goal.returns-else-extended
returns-else-extended c = rw c.if-extended.false c.take_root_place.ensures
