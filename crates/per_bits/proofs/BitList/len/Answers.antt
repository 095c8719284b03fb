use Rattle.std.proofs.Common.{sym, ap, length, arith, ◌≡◌}
use Rattle.per_bits.proofs.Readers.{filled_length, room_there}
use Rattle.per_bits.specs.Octets.{filled}
use Rattle.per_bits.proofs.BitList.len.Goals as goal

pub returns : goal.returns
returns g c = let l = filled_length c.self.inside.spare c.self.inside.octets.items in
    let e : length c.args.self.now ≡ length (filled c.self.inside.spare c.self.inside.octets.items) = ap length (sym c.self.view_is) in omega arith

pub overflow_sub-result : goal.overflow_sub-result
overflow_sub-result g c = omega (arith, room_there c.self.invariant)
