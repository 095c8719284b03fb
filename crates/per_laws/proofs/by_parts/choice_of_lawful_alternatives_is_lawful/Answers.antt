use Rattle.per_laws.proofs.LawfulParts
use Rattle.per_laws.proofs.by_parts.choice_of_lawful_alternatives_is_lawful.Goals as goal

pub returns : goal.returns
returns c = LawfulParts.choice_parts
