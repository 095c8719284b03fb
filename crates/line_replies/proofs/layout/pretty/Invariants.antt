use Rattle.std.proofs.Common.{◌≡◌, ◌++◌, length}
use Rattle.json.specs.Lex.{tokens}
use Rattle.line_replies.proofs.layout.pretty.Given as goal

-- what is written and what is left to read
abbrev pub invariant-tokens : goal.invariant-tokens
invariant-tokens l = l.writer ++ l.reader ≡ tokens l.fn.text

abbrev pub decreases-tokens : goal.decreases-tokens
decreases-tokens l = length l.reader
