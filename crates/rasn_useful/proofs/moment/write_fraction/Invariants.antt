use Rattle.rasn_useful.proofs.moment.write_fraction.Given as goal

abbrev pub invariant-loop-digits : goal.invariant-loop-digits
invariant-loop-digits g l = Unit {0}

-- a digit less each time
abbrev pub decreases-loop-digits : goal.decreases-loop-digits
decreases-loop-digits g l = l.width
