use Rattle.std.proofs.Common.{rules}
use Rattle.per_de.proofs.Steps.{flags_ahead}
use Rattle.per_de.proofs.Decoder.take_extension.Goals as goal

pub returns-in-Ahead : goal.returns-in-Ahead
returns-in-Ahead c = flags_ahead c.args.self.now _ _ c.take_flags.result (search rules) (search rules) c.take_flags.ensures
