use Rattle.std.proofs.Common.{◌≡◌, ◌∙◌, sym, ap, subst, ℕ, true, Some, IfSome}
use Rattle.rasn_types.specs.Alphabets.{char_code, has}
use Rattle.rasn_strings.specs.Prepared.{listed}
use Rattle.std.proofs.lemmas.Bool.{both_ways}
use Rattle.rasn_strings.proofs.Codes.{ready, code_own, place_code, place_only, place_permitted, own_only}
use Rattle.rasn_strings.proofs.alphabet.CharacterAlphabet.decode.Goals as goal

pub returns-then-not-self-clause-some : goal.returns-then-not-self-clause-some
returns-then-not-self-clause-some c = subst (λ o. IfSome o (λ d. char_code c.args.self.now.variant c.args.self.now.characters d ≡ Some c.args.code)) (sym c.character_at.ensures)
    (place_code c.args.self.now c.self.inside.own_values (ready c.self.inside.own.now (listed c.self.inside.permitted) c.self.inside.aligned c.self.inside.width c.self.inside.own_values c.self.inside.run c.self.inside.ascending c.args.self.now c.self.view_is c.self.invariant) c.if-not-self.true c.args.code)

pub returns-then-not-self-clause-every : goal.returns-then-not-self-clause-every
returns-then-not-self-clause-every c = λ d e. c.character_at.ensures ∙ place_only c.args.self.now c.self.inside.own_values (ready c.self.inside.own.now (listed c.self.inside.permitted) c.self.inside.aligned c.self.inside.width c.self.inside.own_values c.self.inside.run c.self.inside.ascending c.args.self.now c.self.view_is c.self.invariant) c.if-not-self.true c.args.code d e

pub returns-then-contains-clause-some : goal.returns-then-contains-clause-some
returns-then-contains-clause-some c = code_own c.args.self.now c.self.inside.own_values (ready c.self.inside.own.now (listed c.self.inside.permitted) c.self.inside.aligned c.self.inside.width c.self.inside.own_values c.self.inside.run c.self.inside.ascending c.args.self.now c.self.view_is c.self.invariant) c.if-not-self.false c.args.code (sym c.contains.ensures ∙ c.if-contains.true)

pub returns-then-contains-clause-every : goal.returns-then-contains-clause-every
returns-then-contains-clause-every c = λ d e. ap (λ (n : ℕ). Some n) (own_only c.args.self.now c.self.inside.own_values (ready c.self.inside.own.now (listed c.self.inside.permitted) c.self.inside.aligned c.self.inside.width c.self.inside.own_values c.self.inside.run c.self.inside.ascending c.args.self.now c.self.view_is c.self.invariant) c.if-not-self.false c.args.code d e).1

pub returns-else-contains-clause-every : goal.returns-else-contains-clause-every
returns-else-contains-clause-every c = λ d e. absurd (both_ways c.contains.result c.if-contains.false (c.contains.ensures ∙ (own_only c.args.self.now c.self.inside.own_values (ready c.self.inside.own.now (listed c.self.inside.permitted) c.self.inside.aligned c.self.inside.width c.self.inside.own_values c.self.inside.run c.self.inside.ascending c.args.self.now c.self.view_is c.self.invariant) c.if-not-self.false c.args.code d e).0))

pub returns-then-not-self-clause-permitted : goal.returns-then-not-self-clause-permitted
returns-then-not-self-clause-permitted c = subst (λ o. IfSome o (λ d. has c.args.self.now.characters d ≡ true)) (sym c.character_at.ensures)
    (place_permitted c.args.self.now c.self.inside.own_values (ready c.self.inside.own.now (listed c.self.inside.permitted) c.self.inside.aligned c.self.inside.width c.self.inside.own_values c.self.inside.run c.self.inside.ascending c.args.self.now c.self.view_is c.self.invariant) c.if-not-self.true c.args.code)
