use Rattle.rasn_types.proofs.Walking.{IsReadTo}
use Rattle.rasn_types.proofs.ber.object_identifier_from_bytes.Given as goal

abbrev pub invariant-loop-octet : goal.invariant-loop-octet
invariant-loop-octet l = IsReadTo l.octets l.octet-index l.arcs.items l.begun
