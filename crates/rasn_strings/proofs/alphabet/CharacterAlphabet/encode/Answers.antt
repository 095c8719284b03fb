use Rattle.std.proofs.Common.{◌≡◌, ◌∙◌, sym, subst, ℕ, ◌^◌, ◌<◌, true, Option, Some, IsSome, IfSome, ◌↔◌}
use Rattle.rasn_types.specs.Alphabets.{char_width, char_code, has}
use Rattle.rasn_strings.specs.Prepared.{listed}
use Rattle.rasn_strings.proofs.Codes.{ready, code_place, code_own, code_none, code_fits, code_some}
use Rattle.rasn_strings.proofs.alphabet.CharacterAlphabet.encode.Goals as goal

-- what is answered is the code, so it fits
fits : (o p : Option ℕ) (n : ℕ) → o ≡ p → IfSome p (λ k. k < n) → IfSome o (λ k. k < n)
fits o p n e h = subst (λ q. IfSome q (λ k. k < n)) (sym e) h

pub returns-then-not-self-clause-code : goal.returns-then-not-self-clause-code
returns-then-not-self-clause-code c = c.index_of.ensures ∙ sym (code_place c.args.self.now c.self.inside.own_values (ready c.self.inside.own.now (listed c.self.inside.permitted) c.self.inside.aligned c.self.inside.width c.self.inside.own_values c.self.inside.run c.self.inside.ascending c.args.self.now c.self.view_is c.self.invariant) c.if-not-self.true c.args.character)

pub returns-then-not-self-clause-fits : goal.returns-then-not-self-clause-fits
returns-then-not-self-clause-fits c = fits c.index_of.result (char_code c.args.self.now.variant c.args.self.now.characters c.args.character) (2 ^ char_width c.args.self.now.variant c.args.self.now.characters)
    (c.index_of.ensures ∙ sym (code_place c.args.self.now c.self.inside.own_values (ready c.self.inside.own.now (listed c.self.inside.permitted) c.self.inside.aligned c.self.inside.width c.self.inside.own_values c.self.inside.run c.self.inside.ascending c.args.self.now c.self.view_is c.self.invariant) c.if-not-self.true c.args.character))
    (code_fits c.args.self.now.variant c.args.self.now.characters c.args.character)

pub returns-then-contains-clause-code : goal.returns-then-contains-clause-code
returns-then-contains-clause-code c = sym (code_own c.args.self.now c.self.inside.own_values (ready c.self.inside.own.now (listed c.self.inside.permitted) c.self.inside.aligned c.self.inside.width c.self.inside.own_values c.self.inside.run c.self.inside.ascending c.args.self.now c.self.view_is c.self.invariant) c.if-not-self.false c.args.character (sym c.contains.ensures ∙ c.if-contains.true))

pub returns-then-contains-clause-fits : goal.returns-then-contains-clause-fits
returns-then-contains-clause-fits c = fits (Some c.args.character) (char_code c.args.self.now.variant c.args.self.now.characters c.args.character) (2 ^ char_width c.args.self.now.variant c.args.self.now.characters)
    (sym (code_own c.args.self.now c.self.inside.own_values (ready c.self.inside.own.now (listed c.self.inside.permitted) c.self.inside.aligned c.self.inside.width c.self.inside.own_values c.self.inside.run c.self.inside.ascending c.args.self.now c.self.view_is c.self.invariant) c.if-not-self.false c.args.character (sym c.contains.ensures ∙ c.if-contains.true)))
    (code_fits c.args.self.now.variant c.args.self.now.characters c.args.character)

pub returns-else-contains-clause-code : goal.returns-else-contains-clause-code
returns-else-contains-clause-code c = sym (code_none c.args.self.now c.args.character (sym c.contains.ensures ∙ c.if-contains.false))

pub returns-then-not-self-clause-permitted : goal.returns-then-not-self-clause-permitted
returns-then-not-self-clause-permitted c = subst (λ o. IsSome o ↔ (has c.args.self.now.characters c.args.character ≡ true))
    (sym (c.index_of.ensures ∙ sym (code_place c.args.self.now c.self.inside.own_values (ready c.self.inside.own.now (listed c.self.inside.permitted) c.self.inside.aligned c.self.inside.width c.self.inside.own_values c.self.inside.run c.self.inside.ascending c.args.self.now c.self.view_is c.self.invariant) c.if-not-self.true c.args.character)))
    (code_some c.args.self.now c.args.character)
