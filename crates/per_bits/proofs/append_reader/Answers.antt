use Rattle.std.proofs.Common.{[], ◌≡◌, ◌∙◌, ◌++◌, sym, ap, length, length-append, subst, arith}
use Rattle.std.proofs.lemmas.List.{append-nil, nil_from_length}
use Rattle.rasn_types.specs.Bits.{to_bits}
use Rattle.rasn_types.proofs.Bits.{length-to_bits}
use Rattle.per_bits.specs.Octets.{filled, AreFilledBy}
use Rattle.per_bits.proofs.Loops.{filled_more}
use Rattle.per_bits.proofs.append_reader.Goals as goal

pub returns-then-unused-gt0 : goal.returns-then-unused-gt0
returns-then-unused-gt0 g c =
    let field = to_bits c.min-width.result c.take_field-number.result in
    let more = filled_more c.args.spare c.fill_last_octet-unused.result c.args.octets.now.items c.fill_last_octet-unused.new.octets.items field c.requires.padded c.fill_last_octet-unused.ensures.bits in
    let count = ap length c.take_field-number.ensures.bits ∙ length-append field c.take_field-number.new.self.bits in
    let none : c.take_field-number.new.self.bits ≡ [] = nil_from_length c.take_field-number.new.self.bits (omega (arith, length-to_bits c.min-width.result c.take_field-number.result, c.fill_last_octet-unused.ensures.bits.few)) in
    subst (λ bs. AreFilledBy (filled c.args.spare c.args.octets.now.items ++ bs) c.fill_last_octet-unused.result c.fill_last_octet-unused.new.octets.items)
    (sym (append-nil field) ∙ ap (λ bs. field ++ bs) (sym none) ∙ sym c.take_field-number.ensures.bits) c.fill_last_octet-unused.ensures.bits

pub append_from_octet-requires-2 : goal.append_from_octet-requires-2
append_from_octet-requires-2 g c =
    let field = to_bits c.min-width.result c.take_field-number.result in
    let more = filled_more c.args.spare c.fill_last_octet-unused.result c.args.octets.now.items c.fill_last_octet-unused.new.octets.items field c.requires.padded c.fill_last_octet-unused.ensures.bits in
    let count = ap length c.take_field-number.ensures.bits ∙ length-append field c.take_field-number.new.self.bits in
    omega (arith, c.requires.room, c.fill_last_octet-unused.ensures.room, length-to_bits c.min-width.result c.take_field-number.result)
