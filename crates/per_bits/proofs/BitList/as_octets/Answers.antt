use Rattle.std.proofs.Common.{◌∙◌, ◌-◌, ◌/◌, ap, take, arith}
use Rattle.rasn_types.specs.Packed.{packed}
use Rattle.per_bits.proofs.Packs.{packed_front, front_bits}
use Rattle.per_bits.proofs.Readers.{room_there}
use Rattle.per_bits.proofs.BitList.as_octets.Goals as goal

pub slice_bounds-octets-count : goal.slice_bounds-octets-count
slice_bounds-octets-count g c = omega (arith, room_there c.self.invariant)

pub returns-clause-octets : goal.returns-clause-octets
returns-clause-octets g c =
    let count = c.len.result - c.self.inside.spare / 8 in
    packed_front c.self.inside.spare count c.self.inside.octets.items _ c.self.invariant (omega arith) (ap (λ os. take count os) c.deref.ensures.value) c.note_octets.ensures ∙ ap packed c.self.view_is

pub returns-clause-bits : goal.returns-clause-bits
returns-clause-bits g c =
    let count = c.len.result - c.self.inside.spare / 8 in
    front_bits c.self.inside.spare count c.self.inside.octets.items _ c.args.self.now c.self.invariant (omega arith) (ap (λ os. take count os) c.deref.ensures.value) c.self.view_is
