use Rattle.std.proofs.Common.{rules}
use Rattle.rasn_traits.specs.AdditionsRead.{reads_no_more}
use Rattle.rasn_traits.proofs.parts.NoAdditionsDecodeAdditions.decode_additions.Goals as goal

pub returns : goal.returns
returns g c = record { law = reads_no_more; fails = search rules; kept = search rules }
