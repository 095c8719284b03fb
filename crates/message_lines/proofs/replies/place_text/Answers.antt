use Rattle.std.proofs.Common.{sym, ap, ◌∙◌, ℕ, List, length}
use Rattle.std.specs.Prelude.{◌==◌}
use Rattle.message_lines.proofs.replies.place_text.Goals as goal

pub returns-then-is_empty : goal.returns-then-is_empty
returns-then-is_empty c =
    rw (ap (λ (l : List ℕ). length l == 0) (sym c.as_str-path.ensures.value) ∙ sym c.is_empty.ensures ∙ c.if-is_empty.true) c.format.ensures.ok

pub returns-else-is_empty : goal.returns-else-is_empty
returns-else-is_empty c =
    rw (ap (λ (l : List ℕ). length l == 0) (sym c.as_str-path.ensures.value) ∙ sym c.is_empty.ensures ∙ c.if-is_empty.false)
    (rw c.as_str-path.ensures.value at c.format-else-is_empty.ensures.ok)
