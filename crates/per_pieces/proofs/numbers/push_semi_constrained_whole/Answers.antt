use Rattle.std.proofs.lemmas.Result.{on_ok_weaker}
use Rattle.rasn_types.specs.Variants.{variant_of}
use Rattle.per_pieces.proofs.Bounded.{appends_natural}
use Rattle.per_pieces.proofs.numbers.push_semi_constrained_whole.Goals as goal

pub returns : goal.returns
returns g c =
    on_ok_weaker _ (appends_natural (variant_of c.args.codec) _ _ c.args.offset c.octet_count.result c.octet_count.ensures.count c.octet_count.ensures.few)
    c.push_counted.ensures
