use Rattle.per_laws.proofs.LawfulParts
use Rattle.per_laws.proofs.by_parts.list_of_a_lawful_type_is_lawful.Goals as goal

pub returns : goal.returns
returns c = LawfulParts.list_parts
