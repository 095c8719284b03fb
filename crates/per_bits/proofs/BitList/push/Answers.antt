use Rattle.std.proofs.Common.{◌∙◌, ◌++◌, ◌∷◌, [], ap}
use Rattle.per_bits.proofs.Readers.{filled_room, kept_by}
use Rattle.per_bits.proofs.BitList.push.Goals as goal

pub put_bit-requires-clause-kept : goal.put_bit-requires-clause-kept
put_bit-requires-clause-kept g c = kept_by c.in_ok-spare.ensures.ok

pub invariant_of-self-2 : goal.invariant_of-self-2
invariant_of-self-2 g c = kept_by c.put_bit.ensures

pub returns-clause-ok : goal.returns-clause-ok
returns-clause-ok g c = filled_room c.put_bit.ensures ∙ ap (λ bs. bs ++ c.args.bit ∷ []) (filled_room c.in_ok-spare.ensures.ok ∙ c.self.view_is)
