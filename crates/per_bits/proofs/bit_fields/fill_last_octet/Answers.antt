use Rattle.std.proofs.Common.{◌≡◌, ◌∙◌, ◌+◌, ◌-◌, length, get_or, refl, ap, ◌/◌, ◌^◌, ℕ, subst, arith}
use Rattle.std.proofs.lemmas.Grind.{get_or_default_zero}
use Rattle.rasn_types.specs.Bits.{AreOctets}
use Rattle.per_bits.proofs.Joins.{octet_below, put_last}
use Rattle.per_bits.proofs.bit_fields.fill_last_octet.Goals as goal

pub overflow_cast-used : goal.overflow_cast-used
overflow_cast-used g c =
    let n : length c.args.octets.now.items ≡ (c.len-place.result - 1) + 1 = omega arith in
    let below = octet_below c.args.octets.now.items (c.len-place.result - 1) (subst AreOctets c.as_slice.ensures.value c.note_octets.ensures) (omega arith) in
    let used : c.from-used.result ≡ get_or c.args.octets.now.items (c.len-place.result - 1) 0 / 2 ^ c.args.spare = c.from-used.ensures ∙ ap (λ (m : ℕ). m / 2 ^ c.args.spare) (c.index.ensures ∙ get_or_default_zero c.args.octets.now.items (c.len-place.result - 1) c.index.result.now (omega arith)) in
    let p = put_last c.args.spare c.args.width c.args.value c.from-used.result c.low_bits.result _ (c.len-place.result - 1) c.args.octets.now.items c.requires.spare c.requires.few n below used c.low_bits.ensures refl in
    omega (arith, p.fits)

pub returns-clause-bits : goal.returns-clause-bits
returns-clause-bits g c =
    let n : length c.args.octets.now.items ≡ (c.len-place.result - 1) + 1 = omega arith in
    let below = octet_below c.args.octets.now.items (c.len-place.result - 1) (subst AreOctets c.as_slice.ensures.value c.note_octets.ensures) (omega arith) in
    let used : c.from-used.result ≡ get_or c.args.octets.now.items (c.len-place.result - 1) 0 / 2 ^ c.args.spare = c.from-used.ensures ∙ ap (λ (m : ℕ). m / 2 ^ c.args.spare) (c.index.ensures ∙ get_or_default_zero c.args.octets.now.items (c.len-place.result - 1) c.index.result.now (omega arith)) in
    (put_last c.args.spare c.args.width c.args.value c.from-used.result c.low_bits.result _ (c.len-place.result - 1) c.args.octets.now.items c.requires.spare c.requires.few n below used c.low_bits.ensures refl).bits
