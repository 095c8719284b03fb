use denote.Param.Send.{IsSend}
use Rattle.per_c.specs.contracts.handle.Handle.{the_row}
use Rattle.per_c.proofs.Crosses.{handle_send}

pub send : IsSend the_row
send = handle_send
