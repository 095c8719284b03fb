use Rattle.std.proofs.Common.{◌+◌, ap, refl}
use Rattle.std.proofs.lemmas.Result.{on_ok_weaker}
use Rattle.rasn_types.specs.Bits.{width}
use Rattle.rasn_types.specs.Variants.{variant_of}
use Rattle.per_pieces.proofs.Bounded.{appends_unaligned}
use Rattle.per_pieces.proofs.numbers.push_constrained_whole.Goals as goal

pub returns-in-Uper : goal.returns-in-Uper
returns-in-Uper g c =
    on_ok_weaker _ (appends_unaligned (variant_of c.args.codec) _ _ c.args.greatest c.args.offset (width (c.args.greatest + 1)) (ap variant_of c.in-Uper.is) refl c.requires) c.push_in_fewest_bits.ensures
