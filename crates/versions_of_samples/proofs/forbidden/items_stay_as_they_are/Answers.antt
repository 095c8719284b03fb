use Rattle.versions_of_samples.proofs.NoVersions
use Rattle.versions_of_samples.proofs.forbidden.items_stay_as_they_are.Goals as goal

pub returns-clause-no_version : goal.returns-clause-no_version
returns-clause-no_version c = NoVersions.item_left_out
