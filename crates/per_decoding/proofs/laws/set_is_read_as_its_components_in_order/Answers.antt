use Rattle.per_core.proofs.TakenInTurn.{took_map}
use Rattle.per_core.proofs.SetReadings.{in_order}
use Rattle.per_decoding.proofs.Scoping.Sets.{sets_well}
use Rattle.per_decoding.proofs.Scoping.Spelled.{spelled}
use Rattle.per_decoding.proofs.laws.set_is_read_as_its_components_in_order.Goals as goal

pub returns : goal.returns
returns c = λ ps qs marker s t rs xs. (
  λ r. spelled r.live (took_map (in_order _ _ ps marker qs rs xs) r.took) r.same,
  λ r. sets_well.set_read ps marker qs s t rs xs r,
)
