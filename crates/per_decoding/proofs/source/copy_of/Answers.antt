use Rattle.std.proofs.Common.{◌∙◌, ◌++◌, ap, subst}
use Rattle.rasn_types.specs.Bits.{AreOctets}
use Rattle.rasn_types.specs.Packed.{packed}
use Rattle.per_decoding.proofs.Copies.{octets_copied}
use Rattle.per_decoding.proofs.source.copy_of.Goals as goal

pub returns : goal.returns
returns c =
    octets_copied c.args.bits.now.bits _ c.requires (subst AreOctets c.as_slice.ensures.value c.note_octets.ensures)
    (c.in_ok-append_octets.ensures.ok ∙ ap (λ z. z ++ packed c.args.bits.now.bits) c.new-copy.ensures.items)
