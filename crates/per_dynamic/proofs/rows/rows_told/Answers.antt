use Rattle.std.proofs.Common.{◌≡◌, ◌∙◌, sym, subst, ap, List, Option, ℕ, map}
use Rattle.std.proofs.lemmas.List.{take_all}
use Rattle.per_dynamic.specs.OpenTypes.{AreTold, row_of}
use Rattle.per_dynamic.proofs.Taking.{all_told, none_told}
use Rattle.per_dynamic.proofs.rows.rows_told.Goals as goal

pub returns-then-not-has_open : goal.returns-then-not-has_open
returns-then-not-has_open c =
    subst (λ (rows : List (Option ℕ)). AreTold c.args.kinds.now c.args.root.now c.args.root_values.now c.args.components.now rows) (sym c.new-rows.ensures.items)
    (none_told c.args.kinds.now c.args.root.now c.args.root_values.now c.args.components.now (sym c.has_open.ensures ∙ c.if-not-has_open.true))

pub returns : goal.returns
returns c =
    subst (λ (rows : List (Option ℕ)). AreTold c.args.kinds.now c.args.root.now c.args.root_values.now c.args.components.now rows)
    (sym (c.loop-component.invariant ∙ ap (map (row_of c.args.kinds.now c.args.root.now c.args.root_values.now)) (take_all c.loop-component.component-index c.args.components.now c.loop-component-test.false)))
    (all_told c.args.kinds.now c.args.root.now c.args.root_values.now c.args.components.now)
