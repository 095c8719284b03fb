use Rattle.std.specs.Prelude.{length, take}
use Rattle.std.specs.List.{All}
use Rattle.schema_file.specs.PlacesInside.{KindIsInside}
use Rattle.schema_file.proofs.load.judge_all.Given as goal

abbrev pub invariant-loop-place : goal.invariant-loop-place
invariant-loop-place l = All (KindIsInside (length l.fn.kinds)) (take l.place l.fn.kinds)
