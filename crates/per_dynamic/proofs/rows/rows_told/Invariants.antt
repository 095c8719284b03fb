use Rattle.std.proofs.Common.{◌≡◌, map, take}
use Rattle.per_dynamic.specs.OpenTypes.{row_of}
use Rattle.per_dynamic.proofs.rows.rows_told.Given as goal

-- the rows of the components so far
abbrev pub invariant-loop-component : goal.invariant-loop-component
invariant-loop-component l =
    l.rows.items ≡ map (row_of l.kinds l.root l.root_values) (take l.component-index l.components)
