use Rattle.std.proofs.Common.{inl, inr, sym, ◌∙◌, true≢false}
use Rattle.std.proofs.lemmas.Bool.{le-ltb}
use borrow.Author.Tests.{ltb-true}
use Rattle.rasn_types.proofs.Writing.{first-is}
use Rattle.rasn_types.proofs.ber.first_subidentifier.Goals as goal
use Rattle.rasn_types.proofs.ber.first_subidentifier.Goals.{then-first-eq2, else-first-eq2+then-first-lt2, else-first-eq2+else-first-lt2}

pub returns-in-len2-up : goal.returns-in-len2-up
returns-in-len2-up c = first-is c.args.arcs.now _ _ c.in-len2-up.len_at_least c.from.ensures c.from-in-len2-up.ensures c.type_inv.arcs (elim c.if-first-eq2.branch [
  | then-first-eq2 w ↦ inl w.if-first-eq2.true
  | else-first-eq2+then-first-lt2 w ↦ inr (w.if-first-lt2.true, ltb-true _ 40 (sym w.value-is ∙ c.if-second-lt40.true))
  | else-first-eq2+else-first-lt2 w ↦ absurd (true≢false (sym c.if-second-lt40.true ∙ w.value-is ∙ le-ltb _ 2 w.if-first-lt2.false))
])
