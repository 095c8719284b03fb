use Rattle.per_laws.proofs.LawfulParts
use Rattle.per_laws.proofs.by_parts.lawful_components_stay.Goals as goal

pub returns : goal.returns
returns c = LawfulParts.components_stay
