use Rattle.per_core.specs.Basic.{basic}
use Rattle.per_read.specs.ReaderState.{settings_of}
use Rattle.per_de.proofs.ElementCounts
use Rattle.per_de.proofs.elements.elements_before_another_are_few.Goals as goal

pub returns : goal.returns
returns c = λ size mark e start before l m x y h amid next. ElementCounts.took_up_to_few (settings_of x) (basic (settings_of x) e) size mark before start y.bits h (next.law size mark e start before amid).behind
