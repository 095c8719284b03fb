use Rattle.std.proofs.Common.{rules, ◌≡◌, ℕ, List, [], map, get_or, arith, sym, ap, ◌∙◌}
use Rattle.std.proofs.lemmas.List.{get_or-map}
use Rattle.per_lines.specs.Types.{word_of}
use Rattle.per_lines.specs.declared.arguments.TypeName.TheVariants.{Boolean}
use Rattle.per_lines.specs.declared.types.NamedType.TheVariants.{Sample}
use Rattle.per_lines.specs.Nearest.{edits}
use Rattle.per_lines.proofs.Nearest.{none-nearer}
use Rattle.per_lines.proofs.show_names.place_of_nearest.Goals as goal
use Rattle.per_lines.proofs.show_names.place_of_nearest.Goals.{then-edits-fewest, else-edits-fewest}

pub loop-place-preserved : goal.loop-place-preserved
loop-place-preserved c =
    let names : List (List ℕ) = map word_of c.args.types.now in
    let l = c.loop-place in
    let is : c.in_ok-edits.edits ≡ edits (get_or names l.place []) c.args.word.now =
    c.in_ok-edits.ensures ∙ ap (λ n. edits n c.args.word.now)
    (c.word-in-loop-place.ensures.word ∙ sym (get_or-map word_of c.args.types.now l.place (Sample Boolean) [] c.loop-place-test.true)) in
    elim c.if-edits-fewest.branch [
      | then-edits-fewest w ↦ (
        search rules,
        search rules,
        rw w.fewest-is (none-nearer names c.args.word.now l.place l.fewest c.in_ok-edits.edits
            (omega (arith, w.if-edits-fewest.true)) l.invariant.2 (omega (arith, is))),
      )
      | else-edits-fewest w ↦ (
        search rules,
        search rules,
        rw w.fewest-is (none-nearer names c.args.word.now l.place l.fewest l.fewest
            (omega arith) l.invariant.2 (omega (arith, is, w.if-edits-fewest.false))),
      )
    ]
