use Rattle.std.proofs.Common.{[], sym, append-nil}
use Rattle.std.proofs.KnownBytes.{Appends-kept}
use Rattle.line_replies.proofs.OutputLaws.{on_ok}
use Rattle.line_replies.proofs.output.write.Goals as goal

pub returns-clause-ok : goal.returns-clause-ok
returns-clause-ok g c =
    let before = g.W.Write.contents c.args.output.now in
    let after = g.W.Write.contents c.flush.new.self in
    on_ok c.flush.result (Appends-kept before _ after _ c.in_ok-write_front.ensures.ok c.flush.ensures.bytes)

pub returns-clause-front : goal.returns-clause-front
returns-clause-front g c =
    let before = g.W.Write.contents c.args.output.now in
    let after = g.W.Write.contents c.flush.new.self in
    (_, [], sym (append-nil _), Appends-kept before _ after _ c.in_ok-write_front.ensures.ok c.flush.ensures.bytes)
