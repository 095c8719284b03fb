use Rattle.std.proofs.Common.{◌≡◌, ◌<◌, ◌≤◌, ◌+◌, ◌^◌, false, drop, Some}
use Rattle.rasn_types.specs.Contents.{arcs_after}
use Rattle.lawful_types.specs.Subidentifiers.{arc_of}
use Rattle.lawful_types.proofs.identifiers.are_contents.Given as goal

abbrev pub invariant-loop-octet : goal.invariant-loop-octet
invariant-loop-octet l = record {
  below : l.read.value < l.read.limit;
  limited : l.read.limit ≤ 2 ^ 33;
  rest : arcs_after (Some (arc_of l.read)) (drop l.octet-index l.fn.octets) ≡ arcs_after (Some (record { begun = false; value = 0; bound = 2 ^ 32 + 80 })) l.fn.octets;
}
