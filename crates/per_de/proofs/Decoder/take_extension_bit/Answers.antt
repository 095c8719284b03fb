use Rattle.std.proofs.Common.{rules}
use Rattle.per_de.proofs.Steps.{extension_taken}
use Rattle.per_de.proofs.Decoder.take_extension_bit.Goals as goal

pub returns : goal.returns
returns c = extension_taken c.args.marker c.args.self.now _ c.take_bit.result (search rules) c.take_bit.ensures
