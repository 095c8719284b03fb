use Rattle.std.proofs.Common.{◌≡◌, ◌∙◌, ◌-◌, ◌/◌, ◌%◌, ◌<◌, ◌^◌, ℕ, get_or, length, sym, subst, refl, arith}
use Rattle.std.proofs.lemmas.Grind.{get_or_default_zero}
use Rattle.rasn_types.specs.Bits.{AreOctets}
use Rattle.per_bits.proofs.Joins.{octet_below}
use Rattle.per_bits.proofs.Readers.{room_there}
use Rattle.per_bits.proofs.Sets.{bit_put}
use Rattle.per_bits.proofs.bit_fields.put_bit.Goals as goal

pub overflow_sub-place-2 : goal.overflow_sub-place-2
overflow_sub-place-2 g c = omega (arith, room_there c.requires.kept)

pub returns : goal.returns
returns g c =
    let os = c.args.octets.now.items in
    let place = c.len.result - 1 - (c.args.spare - 1) / 8 in
    let within : place < length os = omega (arith, room_there c.requires.kept) in
    let octet : c.index_mut.result.now ≡ get_or os place 0 = c.index_mut.ensures.value ∙ get_or_default_zero os place c.index_mut.result.now within in
    let below : c.index_mut.result.now < 2 ^ 8 = subst (λ (n : ℕ). n < 2 ^ 8) (sym octet) (octet_below os place (subst AreOctets c.as_slice.ensures.value c.note_octets.ensures) within) in
    let there : place ≡ length os - 1 - (c.args.spare - 1) / 8 = omega arith in
    bit_put c.args.spare (c.args.spare - 1) place ((c.args.spare - 1) % 8) c.index_mut.result.now c.from.result _ c.args.bit os c.requires.kept c.requires.some refl refl there octet below c.from.ensures refl
