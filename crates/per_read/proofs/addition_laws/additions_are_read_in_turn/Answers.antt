use Rattle.std.proofs.Common.{◌∷◌, sym, subst}
use Rattle.per_core.specs.Basic.{Additions, rules}
use Rattle.per_core.specs.Spellings.{Took}
use Rattle.per_core.specs.AdditionFaults.{rule_of}
use Rattle.per_read.proofs.Additions.{additions_took, took_additions}
use Rattle.per_read.proofs.addition_laws.additions_are_read_in_turn.Goals as goal

pub returns : goal.returns
returns c = λ a p c ps xs s t flags flag rest n. (
  took_additions a (rule_of a p c) (rules a ps) flags flag rest xs n,
  λ x. subst (λ z. Took (Additions a (rule_of a p c ∷ rules a ps) z flags) s t) (sym x.are)
      (additions_took a (rule_of a p c) (rules a ps) flags flag rest x.first x.others n x.here x.behind),
)
