use Rattle.std.specs.Prelude.{length, take}
use Rattle.schema_file.specs.PlacesInside.{ComponentsAreInside}
use Rattle.schema_file.proofs.judge.judge_components.Given as goal

abbrev pub invariant-loop-component : goal.invariant-loop-component
invariant-loop-component l = ComponentsAreInside (length l.fn.kinds) (take l.component-index l.fn.components)
