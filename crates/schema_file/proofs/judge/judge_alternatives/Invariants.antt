use Rattle.std.specs.Prelude.{length, take}
use Rattle.schema_file.specs.PlacesInside.{AlternativesAreInside}
use Rattle.schema_file.proofs.judge.judge_alternatives.Given as goal

abbrev pub invariant-loop-alternative : goal.invariant-loop-alternative
invariant-loop-alternative l = AlternativesAreInside (length l.fn.kinds) (take l.alternative-index l.fn.alternatives)
