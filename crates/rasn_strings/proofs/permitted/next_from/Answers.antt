use Rattle.std.proofs.Common.{◌∙◌, sym, subst, ℕ, List, ◌∷◌, [], ◌++◌, get_or, take, Option, arith}
use Rattle.std.proofs.lemmas.Bool.{both_ways}
use Rattle.std.proofs.lemmas.List.{take_more, take_all}
use Rattle.rasn_strings.specs.Intervals.{expand}
use Rattle.rasn_strings.proofs.Least.{Least, least_takes, least_keeps, least_first, least_small}
use Rattle.rasn_strings.proofs.permitted.next_from.Goals as goal
use Rattle.rasn_strings.proofs.permitted.next_from.Goals.{then-at-character+then-contains, else-at-character, else-at-character-via-then-at-character+else-contains, else-at-character-via-else-at-character}

pub loop-character-preserved : goal.loop-character-preserved
loop-character-preserved c =
    let x : ℕ = get_or c.args.permitted.now c.loop-character.character-index 0 in
    let seen : List ℕ = take c.loop-character.character-index c.args.permitted.now in
    let P : Option ℕ → Type 0 = λ o. Least (expand c.args.own.now) c.args.at (seen ++ x ∷ []) o in
    rw (take_more c.args.permitted.now c.loop-character.character-index 0 c.loop-character-test.true) (elim c.if-at-character.branch [
      | then-at-character+then-contains w ↦ subst P (sym w.next-is)
          (least_takes (expand c.args.own.now) c.args.at seen c.loop-character.next x w.lesser.result c.loop-character.invariant (sym w.contains.ensures ∙ w.if-contains.true) w.if-at-character.true w.lesser.ensures)
      | else-at-character w ↦ subst P (sym w.next-is) (least_keeps (expand c.args.own.now) c.args.at seen c.loop-character.next x c.loop-character.invariant (λ h l. elim w.else-at-character.branch [
        | else-at-character-via-then-at-character+else-contains w' ↦ both_ways w'.contains.result w'.if-contains.false (w'.contains.ensures ∙ h)
        | else-at-character-via-else-at-character w' ↦ let i = w'.if-at-character.false in omega arith
      ]))
    ])

pub returns-clause-value : goal.returns-clause-value
returns-clause-value c = least_first c.args.own.now c.args.at c.args.permitted.now c.loop-character.next c.requires
    (subst (λ seen. Least (expand c.args.own.now) c.args.at seen c.loop-character.next) (take_all c.loop-character.character-index c.args.permitted.now c.loop-character-test.false) c.loop-character.invariant)

pub returns-clause-small : goal.returns-clause-small
returns-clause-small c = least_small c.args.own.now c.args.at c.args.permitted.now c.loop-character.next c.requires
    (subst (λ seen. Least (expand c.args.own.now) c.args.at seen c.loop-character.next) (take_all c.loop-character.character-index c.args.permitted.now c.loop-character-test.false) c.loop-character.invariant)
