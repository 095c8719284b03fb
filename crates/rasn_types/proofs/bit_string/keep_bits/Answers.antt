use Rattle.std.proofs.Common.{◌≡◌, ap, ◌∙◌, subst, ℕ, ◌-◌, ◌/◌, ◌%◌, ◌<◌, ◌++◌, take, false, get_or, replicate, slice_set, arith}
use Rattle.std.proofs.Common.{get_or-take}
use Rattle.std.proofs.lemmas.Grind.{get_or_default_zero}
use Rattle.std.specs.Int.{div_ceil}
use Rattle.rasn_types.specs.Bits.{AreOctets, number_of, to_bits}
use Rattle.rasn_types.proofs.Packing.{whole_kept, part_kept}
use Rattle.rasn_types.proofs.bit_string.keep_bits.Goals as goal

pub returns-then-len-gt0 : goal.returns-then-len-gt0
returns-then-len-gt0 c =
    let taken : c.truncate.new.self.items ≡ take (div_ceil c.args.len 8) c.args.octets.now.items = c.truncate.ensures.items ∙ ap (λ (n : ℕ). take n c.args.octets.now.items) c.div_ceil.ensures in
    let l : c.args.len / 8 < div_ceil c.args.len 8 = omega arith in
    let there : c.index.result.now ≡ get_or c.args.octets.now.items (c.args.len / 8) 0 = c.index.ensures ∙ ap (λ os. get_or os (c.args.len / 8) c.index.result.now) taken
    ∙ get_or-take (div_ceil c.args.len 8) c.args.octets.now.items (c.args.len / 8) c.index.result.now l ∙ get_or_default_zero c.args.octets.now.items (c.args.len / 8) c.index.result.now (omega arith) in
    ap (λ os. slice_set os (c.args.len / 8) c.first_bits.result) taken
    ∙ part_kept c.args.len c.args.octets.now.items c.first_bits.result (subst AreOctets c.as_slice.ensures.value c.note_octets.ensures) c.requires c.if-len-gt0.true
    (c.first_bits.ensures ∙ ap (λ (o : ℕ). number_of (take (c.args.len % 8) (to_bits 8 o) ++ replicate (8 - c.args.len % 8) false)) there)

pub returns-else-len-gt0 : goal.returns-else-len-gt0
returns-else-len-gt0 c =
    c.truncate.ensures.items ∙ ap (λ (n : ℕ). take n c.args.octets.now.items) c.div_ceil.ensures
    ∙ whole_kept c.args.len c.args.octets.now.items (subst AreOctets c.as_slice.ensures.value c.note_octets.ensures) c.requires (omega (arith, c.if-len-gt0.false))
