use Rattle.std.proofs.Common.{rules}
use Rattle.rasn_schema.specs.Normal.{normal}
use Rattle.rasn_traits.specs.Additions.{presents_no_more}
use Rattle.rasn_traits.proofs.parts.NoAdditionsEncodeAdditions.encode_additions.Goals as goal

pub returns : goal.returns
unfolding normal
returns g c = record { law = record { at = λ n le. presents_no_more }; fails = search rules; kept = search rules }
