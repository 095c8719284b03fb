use Rattle.rasn_traits.specs.Scopes.{AreRead}
use Rattle.rasn_sets.proofs.record.fn.SetKindDecodeKind.decode_value.decode_set_in_order.Goals as goal

pub returns : goal.returns
unfolding AreRead
returns g c = let h = c.in_ok-decode_components.ensures in record { law = h.law; kept = h.kept }
