use Rattle.std.proofs.Common.{◌∙◌, ◌++◌, ap, arith}
use Rattle.rasn_types.specs.Bits.{to_bits}
use Rattle.per_bits.proofs.Readers.{filled_room, kept_by}
use Rattle.per_bits.proofs.BitList.push_field.Goals as goal

pub put_field-requires-clause-kept : goal.put_field-requires-clause-kept
put_field-requires-clause-kept g c = kept_by c.in_ok-spare.ensures.ok

pub put_field-requires-clause-enough : goal.put_field-requires-clause-enough
put_field-requires-clause-enough g c = omega (arith, c.in_ok-spare.ensures.enough)

pub invariant_of-self-2 : goal.invariant_of-self-2
invariant_of-self-2 g c = kept_by c.put_field.ensures

pub returns-clause-ok : goal.returns-clause-ok
returns-clause-ok g c = filled_room c.put_field.ensures ∙ ap (λ bs. bs ++ to_bits c.args.width c.args.value) (filled_room c.in_ok-spare.ensures.ok ∙ c.self.view_is)
