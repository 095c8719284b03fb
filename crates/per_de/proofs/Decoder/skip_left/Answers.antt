use Rattle.per_de.proofs.Additions.{rest_skipped}
use Rattle.per_de.proofs.Decoder.skip_left.Goals as goal

pub returns : goal.returns
returns c = rest_skipped c.args.self.now _ c.in_ok-flags.flags _ c.skip_additions.result c.in_ok-flags.ensures c.skip_additions.ensures
