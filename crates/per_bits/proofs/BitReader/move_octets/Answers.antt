use Rattle.std.proofs.Common.{◌∙◌, ◌*◌, ◌/◌, ◌++◌, sym, ap, drop, take, append_assoc, arith}
use Rattle.std.proofs.lemmas.List.{take-take, take_at}
use Rattle.rasn_types.specs.Bits.{unpack}
use Rattle.per_bits.proofs.Readers.{bits_are, left_is, ok_unless}
use Rattle.per_bits.proofs.BitReader.move_octets.Goals as goal

pub append_octets_after-requires-clause-room : goal.append_octets_after-requires-clause-room
append_octets_after-requires-clause-room g c =
    let left = left_is c.self.inside.skip c.self.inside.len c.self.inside.octets.now c.args.self.now.bits (bits_are c.self.view_is) c.self.invariant in
    omega (arith, c.requires.room)

pub unwrap-requires : goal.unwrap-requires
unwrap-requires g c =
    let left = left_is c.self.inside.skip c.self.inside.len c.self.inside.octets.now c.args.self.now.bits (bits_are c.self.view_is) c.self.invariant in
    ok_unless c.take.result c.take.ensures.short (λ h. omega arith)

pub returns-clause-bits : goal.returns-clause-bits
returns-clause-bits g c =
    let taken = rw c.unwrap.ensures at c.take.ensures in
    let old = unpack c.args.octets.now.items in
    let count = 8 * (c.self.inside.len / 8) in
    let front = sym (take-take count c.self.inside.len (drop c.self.inside.skip (unpack c.self.inside.octets.now)) (omega arith)) ∙ ap (take count) ((bits_are c.self.view_is) ∙ taken.ok) ∙ take_at c.unwrap.result.bits c.take.new.self.bits count taken.count in
    ap (λ bs. bs ++ c.take.new.self.bits) (c.append_octets_after.ensures.bits ∙ ap (λ bs. old ++ bs) front)
    ∙ append_assoc old c.unwrap.result.bits c.take.new.self.bits ∙ ap (λ bs. old ++ bs) (sym taken.ok)
