use Rattle.per_laws.proofs.lawful.lawful_distance_fits.Goals as goal
use Rattle.per_laws.proofs.Demands

pub returns : goal.returns
returns c = Demands.distance_fits
