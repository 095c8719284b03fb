use Rattle.per_de.proofs.Containing.{contents_opened}
use Rattle.per_de.proofs.Decoder.enter_containing.Goals as goal

pub returns : goal.returns
returns c = contents_opened c.args.self.now _ _ c.in_ok-check_unfailed.ensures.ok c.enter_open_type.ensures
