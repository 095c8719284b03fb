use Rattle.std.proofs.Common.{sym, subst, []}
use Rattle.per_core.specs.Basic.{Additions}
use Rattle.per_core.specs.Spellings.{Took}
use Rattle.per_read.proofs.Additions.{took_unknown, unknown_took}
use Rattle.per_read.proofs.addition_laws.unknown_additions_stand_last.Goals as goal

pub returns : goal.returns
returns c = λ a xs flags s t. (took_unknown a flags xs, λ x. subst (λ z. Took (Additions a [] z flags) s t) (sym x.0) (unknown_took a flags x.1))
