use Rattle.std.proofs.Common.{sym, ap, subst, ◌∙◌, ◌<◌, ℕ, string_bytes}
use Rattle.rasn_jer.proofs.Spelled.{spelled_there, is_there}
use Rattle.rasn_jer.proofs.texts.characters.Goals as goal
use Rattle.rasn_jer.proofs.texts.characters.Goals.{in-Some+in_ok-push_scalar, in_default}

pub loop-index-preserved : goal.loop-index-preserved
loop-index-preserved g c = elim c.match-character.branch [
  | in-Some+in_ok-push_scalar w ↦ spelled_there _ _ _ c.loop-index.index w.in-Some.code c.loop-index.invariant
      (sym c.character.ensures.value ∙ w.in-Some.is) (ap string_bytes w.text-is ∙ w.in_ok-push_scalar.ensures.ok)
  | in_default w ↦ absurd (is_there _ c.loop-index.index (subst (λ (n : ℕ). c.loop-index.index < n) c.len-index-end.ensures c.loop-index-test.true)
      (sym c.character.ensures.value ∙ w.in_default.is))
]
