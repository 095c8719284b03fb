use Rattle.std.proofs.Common.{arith}
use Rattle.lawful_types.proofs.Values.{any_characters}
use Rattle.lawful_types.proofs.defaults.characters_are_countable.Goals as goal

pub returns : goal.returns
returns c = any_characters c.args.characters.now (omega arith)
