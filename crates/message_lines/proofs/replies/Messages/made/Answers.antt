use Rattle.message_lines.proofs.UnmadeOctets.{unmade_text}
use Rattle.message_lines.proofs.replies.Messages.made.Goals as goal

pub returns-in-Err-clause-err : goal.returns-in-Err-clause-err
returns-in-Err-clause-err c =
    unmade_text c.args.self.now c.args.text.now c.in-Err.error c.refused_text.result c.in-Err.ensures.err c.refused_text.ensures
