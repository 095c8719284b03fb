use Rattle.rasn_types.proofs.ber.+push_leading_octets.Given as goal

abbrev pub decreases-push_leading_octets : goal.decreases-push_leading_octets
decreases-push_leading_octets g l = l.number
