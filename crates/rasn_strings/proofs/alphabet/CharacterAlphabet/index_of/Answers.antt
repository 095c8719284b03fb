use Rattle.std.proofs.Common.{◌∙◌, sym, ap}
use Rattle.rasn_types.specs.Alphabets.{index_of}
use Rattle.rasn_strings.specs.Prepared.{listed}
use Rattle.rasn_strings.proofs.Searching.{in_order}
use Rattle.rasn_strings.proofs.alphabet.CharacterAlphabet.index_of.Goals as goal

pub place_in-requires-clause-few : goal.place_in-requires-clause-few
place_in-requires-clause-few c = (in_order c.self.inside.own.now (listed c.self.inside.permitted) c.self.inside.aligned c.self.inside.width c.self.inside.own_values c.self.inside.run c.self.inside.ascending c.args.self.now c.self.view_is c.self.invariant c.if-self.true c.in-Some.permitted.now (ap listed c.in-Some.is)).few

pub returns-then-self : goal.returns-then-self
returns-then-self c = c.place_in.ensures ∙ ap (index_of c.args.character) (sym (in_order c.self.inside.own.now (listed c.self.inside.permitted) c.self.inside.aligned c.self.inside.width c.self.inside.own_values c.self.inside.run c.self.inside.ascending c.args.self.now c.self.view_is c.self.invariant c.if-self.true c.in-Some.permitted.now (ap listed c.in-Some.is)).same)
