use Rattle.std.proofs.Common.{◌∙◌, ap, false}
use Rattle.std.specs.Option.{unwrap_or}
use Rattle.std.proofs.lemmas.Option.{unwrap_or-slice_get}
use Rattle.rasn_types.proofs.bit_string.BitString.is_set.Goals as goal

pub returns : goal.returns
returns c = c.unwrap_or.ensures ∙ ap (λ b. unwrap_or b false) c.get.ensures ∙ unwrap_or-slice_get c.args.self.now c.args.index false
