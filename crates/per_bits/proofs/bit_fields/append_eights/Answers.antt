use Rattle.std.proofs.Common.{◌∙◌, ◌+◌, ◌-◌, ◌*◌, ◌/◌, length, vec_len, refl, arith, rules}
use Rattle.std.proofs.lemmas.Slice.{between_to_end}
use Rattle.per_bits.proofs.Eights.{begun_zeros, eights_put, with_zeros}
use Rattle.per_bits.proofs.bit_fields.append_eights.Goals as goal

pub put_eights-requires-clause-zeros : goal.put_eights-requires-clause-zeros
put_eights-requires-clause-zeros g c =
    let os = c.args.octets.now.items in
    let begun = c.div_ceil-begun.result in
    let begin = c.len.result - begun in
    let now = c.deref_mut.ensures.value ∙ with_zeros (begin + length c.args.from.now / 8 * c.args.width + 8) (vec_len c.args.octets.now) os c.resize.new.self.items (omega arith) (omega arith) (rw c.unwrap.ensures at c.resize.ensures.items) in
    let part = between_to_end c.deref_mut.result.now begin (length c.deref_mut.result.now) (omega arith) in
    (begun_zeros c.args.spare begun begin _ os c.deref_mut.result.now _ c.requires.padded (omega arith) (omega arith) (omega arith) now part).zeros

pub returns-clause-bits : goal.returns-clause-bits
returns-clause-bits g c =
    let os = c.args.octets.now.items in
    let begun = c.div_ceil-begun.result in
    let begin = c.len.result - begun in
    let now = c.deref_mut.ensures.value ∙ with_zeros (begin + length c.args.from.now / 8 * c.args.width + 8) (vec_len c.args.octets.now) os c.resize.new.self.items (omega arith) (omega arith) (rw c.unwrap.ensures at c.resize.ensures.items) in
    let part = between_to_end c.deref_mut.result.now begin (length c.deref_mut.result.now) (omega arith) in
    let begins = begun_zeros c.args.spare begun begin _ os c.deref_mut.result.now _ c.requires.padded (omega arith) (omega arith) (omega arith) now part in
    eights_put c.args.spare begun begin c.args.width _ _ _ _ os c.deref_mut.result.now _ c.put_eights.new.octets _ c.args.from.now c.truncate.new.self.items c.requires.padded (omega arith) (omega arith) (omega arith) now part begins
    c.put_eights.ensures c.requires.whole (search rules) refl (search rules) (omega arith) c.truncate.ensures.items
