use Rattle.rasn_types.specs.Variants.{variant_of}
use Rattle.rasn_dynamic.specs.Types.{schema_at}
use Rattle.rasn_dynamic.specs.Values.{levels_of, value_of}
use Rattle.rasn_per.specs.Calls.{reading}
use Rattle.per_versions.proofs.Laws
use Rattle.per_dynamic.proofs.Tables.{levels}
use Rattle.per_dynamic.proofs.versions.encoded_octets_are_known.Goals as goal

pub returns : goal.returns
returns c =
    let ts = c.args.types.now.kinds.items in let i = c.args.place in
    λ strict codec x y octets h d. Laws.written_known (reading strict (variant_of codec)) (schema_at ts i) (levels ts i) (levels_of x) (value_of x) octets h (value_of y) d.ok.are_read
