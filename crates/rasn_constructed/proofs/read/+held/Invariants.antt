use Rattle.std.proofs.Common.{◌+◌, ◌*◌}
use Rattle.rasn_constructed.proofs.read.+held.Given as goal

-- the levels left fall by one from a type to what it holds, and the function that is lent comes between the two
abbrev pub decreases-decode : goal.decreases-decode
decreases-decode g l = 2 * g.D.Decoder.rules.levels l.decoder.now

abbrev pub decreases-decode_other : goal.decreases-decode_other
decreases-decode_other g l = 2 * g.D.Decoder.rules.levels l.decoder.now

abbrev pub decreases-decode-by_function : goal.decreases-decode-by_function
decreases-decode-by_function g l = 2 * g.D.Decoder.rules.levels l.inside.now + 1

abbrev pub decreases-decode_other-by_function : goal.decreases-decode_other-by_function
decreases-decode_other-by_function g l = 2 * g.D.Decoder.rules.levels l.inside.now + 1
