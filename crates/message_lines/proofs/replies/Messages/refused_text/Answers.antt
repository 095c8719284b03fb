use Rattle.message_lines.proofs.UnmadeOctets.{of_fault}
use Rattle.message_lines.proofs.replies.Messages.refused_text.Goals as goal

pub returns-in-FromJson : goal.returns-in-FromJson
returns-in-FromJson c =
    of_fault c.args.self.now c.args.text.now c.args.error c.in-FromJson.field-0 c.in-Err.fault c.from.result c.in-FromJson.is c.from.ensures c.in-Err.ensures.refused c.in-Err.ensures.located
