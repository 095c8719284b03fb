use Rattle.std.proofs.Common.{◌∙◌, ap, subst}
use Rattle.rasn_types.specs.Bits.{AreOctets}
use Rattle.rasn_types.specs.Packed.{packed}
use Rattle.per_bits.proofs.Packs.{packed_by}
use Rattle.per_bits.proofs.Readers.{filled_by, padded_by}
use Rattle.per_bits.proofs.BitList.into_octets.Goals as goal

pub returns : goal.returns
returns g c = packed_by c.cut_back.result c.cut_back.new.octets.items (padded_by c.cut_back.ensures.bits) (subst AreOctets c.as_slice.ensures.value c.note_octets.ensures) ∙ ap packed (filled_by c.cut_back.ensures.bits ∙ c.self.view_is)
