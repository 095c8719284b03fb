use Rattle.per_laws.proofs.by_parts.set_of_a_lawful_type_is_lawful.Goals as goal
use Rattle.per_laws.proofs.LawfulParts

pub returns : goal.returns
returns c = LawfulParts.set_parts
