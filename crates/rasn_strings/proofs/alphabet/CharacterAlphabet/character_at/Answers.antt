use Rattle.std.proofs.Common.{◌∙◌, sym, ap, ℕ, List, slice_get}
use Rattle.rasn_strings.specs.Prepared.{listed}
use Rattle.rasn_strings.proofs.Searching.{in_order}
use Rattle.rasn_strings.proofs.alphabet.CharacterAlphabet.character_at.Goals as goal

pub returns-then-self : goal.returns-then-self
returns-then-self c = c.get_in.ensures ∙ ap (λ (xs : List ℕ). slice_get xs c.args.index) (sym (in_order c.self.inside.own.now (listed c.self.inside.permitted) c.self.inside.aligned c.self.inside.width c.self.inside.own_values c.self.inside.run c.self.inside.ascending c.args.self.now c.self.view_is c.self.invariant c.if-self.true c.in-Some.permitted.now (ap listed c.in-Some.is)).same)
