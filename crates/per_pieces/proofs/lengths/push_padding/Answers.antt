use Rattle.std.proofs.Common.{ap}
use Rattle.std.proofs.lemmas.Result.{on_ok_weaker}
use Rattle.rasn_types.specs.Variants.{variant_of}
use Rattle.per_pieces.proofs.Fragments.{appends_nothing, appends_padding}
use Rattle.per_pieces.proofs.lengths.push_padding.Goals as goal

pub returns-in-Aper : goal.returns-in-Aper
returns-in-Aper g c = on_ok_weaker _ (appends_padding (variant_of c.args.codec) _ _ (ap variant_of c.in-Aper.is)) c.push_padding.ensures

pub returns-in-Uper : goal.returns-in-Uper
returns-in-Uper g c = appends_nothing (variant_of c.args.codec) _ (ap variant_of c.in-Uper.is)
