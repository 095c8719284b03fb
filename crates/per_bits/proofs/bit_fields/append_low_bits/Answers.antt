use Rattle.std.proofs.Common.{◌*◌, ◌/◌, length, length-take, arith}
use Rattle.std.proofs.lemmas.Slice.{between_to_end}
use Rattle.per_bits.proofs.Eights.{both_put, eights_length}
use Rattle.per_bits.proofs.Readers.{padded_by, spare_there}
use Rattle.per_bits.proofs.bit_fields.append_low_bits.Goals as goal

pub append_field-requires-clause-there : goal.append_field-requires-clause-there
append_field-requires-clause-there g c = spare_there c.args.spare c.append_eights.new.octets.items (padded_by c.append_eights.ensures.bits)

pub append_field-requires-clause-room : goal.append_field-requires-clause-room
append_field-requires-clause-room g c =
    omega (arith, c.requires.room, c.append_eights.ensures.room, length-take (length c.args.from.now / 8 * 8) c.args.from.now, eights_length c.args.spare c.args.width c.args.octets.now.items c.append_eights.new.octets.items _ c.requires.padded (omega arith) c.append_eights.ensures.bits)

pub returns : goal.returns
returns g c =
    both_put c.args.spare c.append_field.result c.args.width (length c.args.from.now / 8 * 8) c.args.octets.now.items c.append_eights.new.octets.items c.append_field.new.octets.items c.args.from.now _ c.field_of-field.result
    c.append_eights.ensures.bits (between_to_end c.args.from.now (length c.args.from.now / 8 * 8) (length c.args.from.now) (omega arith)) c.field_of-field.ensures c.append_field.ensures.bits
