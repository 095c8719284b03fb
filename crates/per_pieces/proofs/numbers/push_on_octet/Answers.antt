use Rattle.std.proofs.lemmas.Result.{on_ok_weaker}
use Rattle.rasn_types.specs.Bits.{to_bits}
use Rattle.rasn_types.specs.Variants.{aligned}
use Rattle.per_core.specs.Writers.{just, padding}
use Rattle.per_pieces.proofs.Placed.{appends_then}
use Rattle.per_pieces.proofs.numbers.push_on_octet.Goals as goal

pub returns : goal.returns
returns g c =
    on_ok_weaker _ (appends_then c.args.pieces.now c.push_padding.new.pieces c.push_bits.new.self (padding aligned) (just (to_bits c.args.width c.args.number)) c.in_ok-push_padding.ensures) c.push_bits.ensures.appends
