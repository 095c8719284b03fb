use Rattle.std.proofs.Common.{take}
use Rattle.std.specs.Prelude.{slice_get}
use Rattle.per_dynamic.specs.OpenTypes.{set_of}
use Rattle.per_messages.specs.Remarks.{Adds, each_of, of_set}
use Rattle.per_messages.proofs.departures.push_on_records.Given as goal

-- the remarks by the components so far
abbrev pub invariant-loop-component : goal.invariant-loop-component
invariant-loop-component l = Adds l.fn.remarks.items l.remarks.items
    (each_of (λ k c. of_set l.kinds l.path l.root l.values (set_of (slice_get l.kinds c.of))) (take l.component-index l.root))
