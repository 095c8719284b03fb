use Rattle.std.proofs.lemmas.Result.{on_ok_weaker}
use Rattle.rasn_types.specs.Variants.{variant_of}
use Rattle.per_pieces.proofs.Fragments.{appends_counted}
use Rattle.per_pieces.proofs.lengths.push_counted_octets.Goals as goal

pub returns : goal.returns
returns g c =
    on_ok_weaker _ (appends_counted (variant_of c.args.codec) _ _ _ c.args.octets.now c.requires (λ k. (c.type_inv.octets k).fits) c.in_ok-push_unconstrained_length.ensures) c.push_octets.ensures.ok
