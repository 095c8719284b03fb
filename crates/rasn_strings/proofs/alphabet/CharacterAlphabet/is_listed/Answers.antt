use Rattle.std.proofs.Common.{◌∙◌, sym, ap}
use Rattle.rasn_strings.specs.Prepared.{listed}
use Rattle.rasn_strings.proofs.Codes.{has-list_any, permitted_listed, permitted_own}
use Rattle.rasn_strings.proofs.Searching.{placed}
use Rattle.rasn_strings.proofs.alphabet.CharacterAlphabet.is_listed.Goals as goal

pub returns-in-Some : goal.returns-in-Some
returns-in-Some c = c.contains-in-Some.ensures.value ∙ has-list_any c.in-Some.permitted.now c.args.character
    ∙ sym (permitted_listed c.self.inside.own.now (listed c.self.inside.permitted) c.self.inside.aligned c.args.self.now c.self.view_is c.in-Some.permitted.now (ap listed c.in-Some.is) c.args.character (sym c.contains.ensures ∙ c.if-contains.true))

pub returns-else-contains : goal.returns-else-contains
returns-else-contains c = c.if-contains.false
    ∙ sym (permitted_own c.self.inside.own.now (listed c.self.inside.permitted) c.self.inside.aligned c.args.self.now c.self.view_is c.args.character (sym c.contains.ensures ∙ c.if-contains.false))

pub returns-then-self : goal.returns-then-self
returns-then-self c = c.is_some.ensures ∙ placed c.args.self.now.characters c.args.character c.index_of.result c.index_of.ensures
