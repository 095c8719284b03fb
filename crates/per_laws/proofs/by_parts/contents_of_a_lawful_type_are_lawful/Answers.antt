use Rattle.per_laws.proofs.by_parts.contents_of_a_lawful_type_are_lawful.Goals as goal
use Rattle.per_laws.proofs.LawfulParts

pub returns : goal.returns
returns c = LawfulParts.contents_parts
