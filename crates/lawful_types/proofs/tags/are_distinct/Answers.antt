use Rattle.std.proofs.Common.{◌≡◌, ◌∷◌, ◌++◌, ◌&&◌, sym, ◌∙◌, ap, false}
use Rattle.rasn_schema.specs.Lawful.{are_distinct}
use Rattle.lawful_types.specs.TypeRules.{tags_of}
use Rattle.lawful_types.proofs.tags.are_distinct.Goals as goal

pub returns-then-not-is_new_in_both : goal.returns-then-not-is_new_in_both
returns-then-not-is_new_in_both c =
    let us = tags_of c.args.others.now in let rest = c.in-Some.behind.now in
    let e : are_distinct (tags_of (c.in-Some.first.now ∷ rest) ++ us) ≡ false = ap (λ b. b && are_distinct (tags_of rest ++ us)) (sym c.is_new_in_both.ensures ∙ c.if-not-is_new_in_both.true) in
    sym e ∙ sym (ap (λ l. are_distinct (tags_of l ++ us)) c.in-Some.ensures.cases.0) ∙ c.loop-first.invariant

pub loop-first-preserved : goal.loop-first-preserved
loop-first-preserved c =
    let us = tags_of c.args.others.now in let rest = c.in-Some.behind.now in
    let e : are_distinct (tags_of (c.in-Some.first.now ∷ rest) ++ us) ≡ are_distinct (tags_of rest ++ us) = ap (λ b. b && are_distinct (tags_of rest ++ us)) (sym c.is_new_in_both.ensures ∙ c.if-not-is_new_in_both.false) in
    sym e ∙ sym (ap (λ l. are_distinct (tags_of l ++ us)) c.in-Some.ensures.cases.0) ∙ c.loop-first.invariant
