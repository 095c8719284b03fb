-- Remarks on lines, one after another.
use Rattle.std.proofs.Common.{◌≡◌, sym, ap, ◌∙◌, ℕ, ◌+◌, ◌<◌, ◌≤◌, List, [], ◌∷◌, ◌++◌, length, get_or, map, take, append-nil}
use Rattle.std.specs.List.{flat_map}
use Rattle.std.proofs.lemmas.Grind.{flat_map-append}
use Rattle.std.proofs.lemmas.List.{map-append, take_all, take_more}
use Rattle.per_messages.specs.Remarks.{told}
use Rattle.per_messages.specs.declared.remarks.Remark.{Remark}
use Rattle.message_lines.specs.Remarks.{remark_line, remark_lines}

pub lines_more : (k : ℕ) (rs : List Remark) (r : Remark) → k < length rs → r ≡ get_or rs k r
    → remark_lines (map told (take (k + 1) rs)) ≡ remark_lines (map told (take k rs)) ++ remark_line (told r)
lines_more k rs r few is =
    ap (λ l. remark_lines (map told l)) (take_more rs k r few ∙ ap (λ z. take k rs ++ z ∷ []) (sym is))
    ∙ ap remark_lines (map-append told (take k rs) (r ∷ []))
    ∙ flat_map-append remark_line (map told (take k rs)) (told r ∷ [])
    ∙ ap (λ l. remark_lines (map told (take k rs)) ++ l) (append-nil (remark_line (told r)))

pub lines_all : (k : ℕ) (rs : List Remark) → length rs ≤ k → remark_lines (map told (take k rs)) ≡ remark_lines (map told rs)
lines_all k rs h = ap (λ l. remark_lines (map told l)) (take_all k rs h)
