use Rattle.std.proofs.Common.{ap, ◌∙◌}
use Rattle.rasn_types.proofs.Packing.{bit_pushed, room_made, room_there}
use Rattle.rasn_types.proofs.bit_string.append_bit.Goals as goal
use Rattle.rasn_types.proofs.bit_string.append_bit.Goals.{then-place-eq0+in_ok-push, else-place-eq0}

pub returns-clause-ok : goal.returns-clause-ok
returns-clause-ok c = bit_pushed c.args.len c.args.octets.now.items c.if-place-eq0.octets.items c.args.bit c.index_mut.result.now c.from.result c.requires (elim c.if-place-eq0.branch [
  | then-place-eq0+in_ok-push w ↦ ap (λ v. v.items) w.octets-is ∙ w.in_ok-push.ensures.items ∙ room_made c.args.len c.args.octets.now.items c.requires w.if-place-eq0.true
  | else-place-eq0 w ↦ ap (λ v. v.items) w.octets-is ∙ room_there c.args.len c.args.octets.now.items c.requires w.if-place-eq0.false
]) c.index_mut.ensures.value c.from.ensures
