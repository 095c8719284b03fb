use Rattle.rasn_jer.proofs.Spelled.{spelled_within}
use Rattle.rasn_dynamic_jer.proofs.leaves.latin.Goals as goal

pub loop-octet-preserved : goal.loop-octet-preserved
loop-octet-preserved c = spelled_within c.args.octets.now _ _ c.loop-octet.octet-index c.from.result c.loop-octet.invariant c.loop-octet-test.true c.from.ensures c.in_ok-push.ensures.bytes
