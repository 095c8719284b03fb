use Rattle.std.proofs.Common.{FitsSigned, to_z-of_z}
use Rattle.std.proofs.lemmas.Result.{on_ok_weaker}
use Rattle.std.specs.Int.{w128}
use Rattle.rasn_types.specs.Variants.{variant_of}
use Rattle.per_pieces.proofs.Wholes.{appends_whole}
use Rattle.per_pieces.proofs.numbers.push_unconstrained_whole.Goals as goal

pub returns : goal.returns
returns g c =
    let fits : FitsSigned w128 c.args.number = c.ranges.number in
    on_ok_weaker _ (appends_whole (variant_of c.args.codec) _ _ c.args.number c.whole_octet_count.result c.cast_unsigned.result fits (simp to_z-of_z at c.whole_octet_count.ensures.count) c.whole_octet_count.ensures.few
    (simp to_z-of_z at c.cast_unsigned.ensures)) c.push_counted.ensures
