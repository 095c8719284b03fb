use Rattle.std.proofs.Common.{◌∙◌}
use Rattle.lawful_types.proofs.Values.{utf8_told}
use Rattle.lawful_types.proofs.defaults.is_utf8.Goals as goal

pub returns : goal.returns
returns c = c.is_ok.ensures.value ∙ utf8_told _ _ c.args.octets.now c.from_utf8.result c.from_utf8.ensures.cases
