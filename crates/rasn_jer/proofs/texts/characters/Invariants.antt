use Rattle.std.proofs.Common.{◌≡◌, encode_utf8_all, string_bytes, take}
use Rattle.rasn_jer.proofs.texts.characters.Given as goal

abbrev pub invariant-loop-index : goal.invariant-loop-index
invariant-loop-index g l = string_bytes l.text ≡ encode_utf8_all (take l.index (g.S.StaticPermittedAlphabet.characters l.fn.value))
