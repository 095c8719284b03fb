use Rattle.per_laws.proofs.lawful.lawful_alternative_is_found_by_its_tag.Goals as goal
use Rattle.per_laws.proofs.Tagged

pub returns : goal.returns
returns c = Tagged.found_by_tag
