use Rattle.std.proofs.lemmas.Result.{on_ok_weaker}
use Rattle.per_pieces.proofs.Fragments.{appends_short, appends_long, appends_fragment}
use Rattle.per_pieces.proofs.lengths.push_determinant.Goals as goal

pub returns-then-count-lt128 : goal.returns-then-count-lt128
returns-then-count-lt128 g c = on_ok_weaker _ (appends_short _ _ c.args.count c.if-count-lt128.true) c.push_bits.ensures.ok

pub returns-in_ok-push_bits : goal.returns-in_ok-push_bits
returns-in_ok-push_bits g c =
    on_ok_weaker _ (appends_long _ _ _ c.args.count c.if-count-lt128.false c.if-count-lt-FRAGMENT.true c.in_ok-push_bits.ensures.ok) c.push_bits-then-count-lt-FRAGMENT-2.ensures.ok

pub returns-else-count-lt-FRAGMENT : goal.returns-else-count-lt-FRAGMENT
returns-else-count-lt-FRAGMENT g c = on_ok_weaker _ (appends_fragment _ _ c.args.count c.if-count-lt-FRAGMENT.false) c.push_bits-else-count-lt-FRAGMENT.ensures.ok
