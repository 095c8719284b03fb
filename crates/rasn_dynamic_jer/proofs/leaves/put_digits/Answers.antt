use Rattle.std.proofs.Common.{refl}
use Rattle.rasn_dynamic_jer.specs.Leaves.{hexadecimal}
use Rattle.rasn_dynamic_jer.proofs.Tokens.{digits_there, leaf}
use Rattle.rasn_dynamic_jer.proofs.leaves.put_digits.Goals as goal

pub returns : goal.returns
returns c n = leaf (hexadecimal c.args.octets.now) _ _ n _ refl tt refl (digits_there _ c.note_octets.ensures) c.put_hexadecimal.ensures
