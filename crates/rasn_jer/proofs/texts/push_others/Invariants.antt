use Rattle.std.proofs.Common.{◌≡◌, ◌++◌, flat_map, string_bytes, take}
use Rattle.rasn_jer.specs.Strings.{after_dot}
use Rattle.rasn_jer.proofs.texts.push_others.Given as goal

abbrev pub invariant-loop-arc : goal.invariant-loop-arc
invariant-loop-arc g l = string_bytes l.text ≡ string_bytes l.fn.text ++ flat_map after_dot (take l.arc-index l.fn.arcs)
