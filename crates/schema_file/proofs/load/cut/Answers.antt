use Rattle.std.specs.Prelude.{◌==◌, length}
use Rattle.std.proofs.Common.{rules, ◌∙◌, ap, arith}
use Rattle.std.proofs.lemmas.List.{length_push}
use Rattle.schema_file.specs.Lines.{line_feeds}
use Rattle.schema_file.proofs.Feeds.{count_by-after_first, count_by-none}
use Rattle.schema_file.proofs.load.cut.Goals as goal

pub loop-line-preserved : goal.loop-line-preserved
loop-line-preserved c =
    let found = c.in-Some.ensures.byte (omega arith) (λ w o h. h) in
    let fewer = count_by-after_first (λ octet. octet == 10) c.loop-line.rest.now found.2 in
    let same = ap line_feeds found.1 in
    let grown = ap length c.in_ok-push.ensures.items ∙ length_push c.loop-line.lines.items c.in-Some.line in
    (search rules, omega (arith, grown, fewer, same, c.loop-line.invariant.1))

pub returns : goal.returns
returns c =
    let found = c.in_default.ensures.byte (omega arith) (λ w o h. h) in
    let none = count_by-none (λ octet. octet == 10) c.loop-line.rest.now found in
    let grown = ap length c.in_ok-push-2.ensures.items ∙ length_push c.loop-line.lines.items c.loop-line.rest in
    omega (arith, grown, none, c.loop-line.invariant.1)
