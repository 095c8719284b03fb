use Rattle.std.proofs.Common.{◌∙◌, ◌-◌, ◌*◌, ◌/◌, ◌<◌, ◌^◌, ℕ, sym, subst, refl, rules, arith}
use Rattle.std.proofs.lemmas.Grind.{get_or_default_zero}
use Rattle.rasn_types.specs.Bits.{AreOctets}
use Rattle.per_bits.proofs.Joins.{octet_below}
use Rattle.per_bits.proofs.Readers.{room_there}
use Rattle.per_bits.proofs.Room.{field_put}
use Rattle.per_bits.proofs.bit_fields.put_field.Goals as goal

pub overflow_sub-place : goal.overflow_sub-place
overflow_sub-place g c = omega (arith, room_there c.requires.kept)

pub slice_bounds-copy_from_slice-end : goal.slice_bounds-copy_from_slice-end
slice_bounds-copy_from_slice-end g c = omega (arith, room_there c.requires.kept)

pub returns : goal.returns
returns g c =
    let octets = c.args.octets.now.items in
    let free = c.div_ceil-free.result in
    let used = 8 * free - c.args.spare in
    let place = c.len.result - free in
    let there = room_there c.requires.kept in
    let below = octet_below octets place (subst AreOctets c.as_slice.ensures.value c.note_octets.ensures) (omega (arith, there)) in
    let octet = c.from.ensures ∙ c.index.ensures ∙ get_or_default_zero octets place c.index.result.now (omega (arith, there)) in
    field_put _ _ c.args.spare c.args.width c.args.value free used place c.from.result (c.from.result / 2 ^ (8 - used)) c.low_bits.result _ octets c.deref_mut.result.now c.copy_from_slice.new.self _
    c.requires.kept c.requires.enough c.requires.few (omega arith) (omega arith) refl (omega arith) octet (subst (λ (n : ℕ). n < 2 ^ 8) (sym octet) below) refl c.low_bits.ensures refl
    (c.copy_from_slice.ensures.after ∙ c.to_be_bytes.ensures) (search rules) (omega arith) c.deref_mut.ensures.value
