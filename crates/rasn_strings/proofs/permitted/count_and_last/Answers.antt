use Rattle.std.proofs.Common.{ap, length, sym}
use Rattle.rasn_types.specs.Alphabets.{greatest}
use Rattle.rasn_strings.proofs.Searching.{up-rises, last_greatest, none_last}
use Rattle.rasn_strings.proofs.permitted.count_and_last.Goals as goal

pub returns-in-Some-clause-greatest : goal.returns-in-Some-clause-greatest
returns-in-Some-clause-greatest c = sym (last_greatest 0 c.args.ascending.now c.in-Some.last.now (up-rises 0 c.args.ascending.now c.requires.rises) (sym c.in-Some.ensures.value))

pub returns-in-None-clause-count : goal.returns-in-None-clause-count
returns-in-None-clause-count c = sym (ap length (none_last c.args.ascending.now (sym c.in-None.ensures.value)))

pub returns-in-None-clause-greatest : goal.returns-in-None-clause-greatest
returns-in-None-clause-greatest c = sym (ap greatest (none_last c.args.ascending.now (sym c.in-None.ensures.value)))
