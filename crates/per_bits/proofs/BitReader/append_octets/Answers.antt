use Rattle.std.proofs.Common.{◌≡◌, ◌++◌, ap, ap₂, subst}
use Rattle.rasn_types.specs.Bits.{AreOctets, unpack}
use Rattle.per_bits.specs.Octets.{AreFilledBy}
use Rattle.per_bits.proofs.Packs.{octets_below, octets_grown}
use Rattle.per_bits.proofs.Readers.{bits_are}
use Rattle.per_bits.proofs.BitReader.append_octets.Goals as goal

pub returns-clause-ok : goal.returns-clause-ok
returns-clause-ok g c =
    let same = bits_are (rw c.unwrap.ensures at c.clone.ensures.cases) in
    let bits : unpack c.reserve.new.self.items ++ _ ≡ unpack c.args.octets.now.items ++ c.args.self.now.bits = ap₂ (λ bs cs. bs ++ cs) (ap unpack c.reserve.ensures.items) same in
    octets_grown c.append_from_octet.result c.args.octets.now.items c.append_from_octet.new.octets.items c.args.self.now.bits (subst AreOctets c.as_slice.ensures.value c.note_octets.ensures) (octets_below c.append_from_octet.new.octets.items c.type_inv.octets) (subst (λ bs. AreFilledBy bs c.append_from_octet.result c.append_from_octet.new.octets.items) bits c.append_from_octet.ensures)
