use Rattle.std.specs.Int.{w128}
use Rattle.std.proofs.Common.{◌<◌, ◌^◌, arith}
use Rattle.std.proofs.Math.Facts.{to_z_pos}
use Rattle.std.proofs.lemmas.Result.{on_ok_weaker}
use Rattle.rasn_types.specs.Variants.{variant_of}
use Rattle.per_pieces.proofs.SmallNumbers.{appends_low, appends_high}
use Rattle.per_pieces.proofs.small_numbers.push_small.Goals as goal

pub returns-then-number-lt64 : goal.returns-then-number-lt64
returns-then-number-lt64 g c = on_ok_weaker _ (appends_low (variant_of c.args.codec) _ _ c.args.number c.if-number-lt64.true) c.push_bits.ensures.ok

pub returns : goal.returns
returns g c =
    let few : c.args.number < 2 ^ 127 = omega (arith, c.ranges.number.fits) in
    on_ok_weaker _ (appends_high (variant_of c.args.codec) _ _ _ c.args.number c.if-number-lt64.false c.in_ok-push.ensures.ok)
    (rw (to_z_pos w128 few) at c.push_above.ensures)
