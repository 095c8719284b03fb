use Rattle.std.specs.Prelude.{◌≡◌, ◌+◌, length}
use denote.Text.{Utf8}
use denote.Shadow.{shadow}
use Rattle.schema_file.specs.Lines.{line_feeds}
use Rattle.schema_file.proofs.load.cut.Given as goal

abbrev pub invariant-loop-line : goal.invariant-loop-line
invariant-loop-line l = shadow (Utf8 l.rest) × (length l.lines.items + line_feeds l.rest ≡ line_feeds l.fn.text)

abbrev pub decreases-loop-line : goal.decreases-loop-line
decreases-loop-line l = length l.rest
