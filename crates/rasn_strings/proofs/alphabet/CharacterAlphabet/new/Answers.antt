use Rattle.std.proofs.Common.{◌∙◌, sym, ap, ℕ, List}
use Rattle.rasn_types.specs.Alphabets.{has}
use Rattle.rasn_strings.specs.Intervals.{expand}
use Rattle.rasn_strings.specs.Prepared.{listed}
use Rattle.rasn_strings.proofs.Codes.{restricted_own}
use Rattle.rasn_strings.proofs.alphabet.CharacterAlphabet.new.Goals as goal

pub returns-clause-own : goal.returns-clause-own
returns-clause-own g c = λ d h. ap (λ (own : List ℕ). has own d) (sym c.intervals-own.ensures.expands) ∙ restricted_own (expand c.intervals-own.result.now) (listed c.args.permitted) d h
