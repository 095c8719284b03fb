use Rattle.std.proofs.Common.{◌≡◌, ◌∙◌, ◌++◌, ap₂, subst, arith}
use Rattle.std.proofs.lemmas.List.{take_all}
use Rattle.rasn_types.specs.Bits.{to_bits, unpack}
use Rattle.per_bits.specs.Octets.{filled, AreFilledBy}
use Rattle.per_bits.proofs.Readers.{filled_all, moved_length}
use Rattle.per_bits.proofs.append_from_octet.Goals as goal

pub append_field-requires-clause-room : goal.append_field-requires-clause-room
append_field-requires-clause-room g c =
    let m = moved_length c.args.octets.now.items c.move_front.new.octets.items c.move_front.new.self.bits c.args.reader.bits c.move_front.ensures.bits in
    omega (arith, c.requires, c.move_front.ensures.room)

pub returns : goal.returns
returns g c =
    let field = to_bits c.len-width.result c.first_field-number.result in
    let all : filled 0 c.move_front.new.octets.items ++ field ≡ unpack c.args.octets.now.items ++ c.args.reader.bits = ap₂ (λ bs cs. bs ++ cs) (filled_all c.move_front.new.octets.items)
    (c.first_field-number.ensures ∙ take_all c.len-width.result c.move_front.new.self.bits (omega arith)) ∙ c.move_front.ensures.bits in
    subst (λ bs. AreFilledBy bs c.append_field.result c.append_field.new.octets.items) all c.append_field.ensures.bits
