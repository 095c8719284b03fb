use Rattle.std.proofs.Common.{◌≡◌, ◌++◌, length, take, drop}
use Rattle.rasn_types.specs.Identifiers.{subidentifier, subidentifiers}
use Rattle.rasn_types.proofs.ber.push_subidentifiers.Given as goal

-- what was written and is still to write is all that is to be written
abbrev pub invariant-loop-arc : goal.invariant-loop-arc
invariant-loop-arc g l = record {
  written : l.octets.items ++ subidentifiers (drop l.arc-index l.others) ≡ l.fn.octets.items ++ subidentifier l.fn.first ++ subidentifiers l.others;
  kept : take (length l.fn.octets.items) l.octets.items ≡ l.fn.octets.items;
}
