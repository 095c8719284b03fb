use Rattle.rasn_strings.proofs.fraction.+read_digits.Given as goal

abbrev pub decreases-read_digits : goal.decreases-read_digits
decreases-read_digits l = l.places
