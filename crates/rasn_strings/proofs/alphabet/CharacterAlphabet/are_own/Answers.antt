use Rattle.std.proofs.Common.{◌∙◌, ◌&&◌, leb, sym}
use Rattle.std.proofs.lemmas.Bool.{and_parts}
use Rattle.rasn_strings.specs.Intervals.{all_within}
use Rattle.rasn_strings.specs.Prepared.{listed}
use Rattle.rasn_strings.proofs.Codes.{own_in_run}
use Rattle.rasn_strings.proofs.alphabet.CharacterAlphabet.are_own.Goals as goal

pub returns-then-self : goal.returns-then-self
returns-then-self c = λ t. own_in_run c.self.inside.own.now (listed c.self.inside.permitted) c.self.inside.aligned c.self.inside.width c.self.inside.own_values c.self.inside.run c.self.inside.ascending c.args.self.now c.self.view_is c.self.invariant
    c.if-self.true c.args.octets.now (and_parts (leb c.self.inside.run.first c.self.inside.run.last && leb c.self.inside.run.last 255) (all_within c.self.inside.run c.args.octets.now) (sym c.contains_all.ensures ∙ t)).1
