use Rattle.std.proofs.Common.{arith, refl}
use Rattle.std.proofs.lemmas.Result.{on_ok_weaker}
use Rattle.rasn_types.specs.Variants.{variant_of}
use Rattle.per_pieces.proofs.CountedOctets.{appends_field, appends_octets}
use Rattle.per_pieces.proofs.numbers.push_counted.Goals as goal

pub returns-then-octets-le6 : goal.returns-then-octets-le6
returns-then-octets-le6 g c =
    on_ok_weaker _ (appends_field (variant_of c.args.codec) _ _ _ c.args.octets c.args.number c.after_count.result (omega arith) c.in_ok-push_padding.ensures c.after_count.ensures)
    c.push_field.ensures

pub returns : goal.returns
returns g c =
    on_ok_weaker _ (appends_octets (variant_of c.args.codec) _ _ _ _ c.args.octets c.args.number (omega arith) c.in_ok-push_padding.ensures refl)
    c.push_in_two_fields.ensures
