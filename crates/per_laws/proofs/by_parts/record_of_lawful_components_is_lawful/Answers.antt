use Rattle.per_laws.proofs.LawfulParts
use Rattle.per_laws.proofs.by_parts.record_of_lawful_components_is_lawful.Goals as goal

pub returns : goal.returns
returns c = LawfulParts.record_parts
