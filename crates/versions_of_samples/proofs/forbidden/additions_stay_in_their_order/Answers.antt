use Rattle.versions_of_samples.proofs.NoVersions
use Rattle.versions_of_samples.proofs.forbidden.additions_stay_in_their_order.Goals as goal

pub returns-clause-no_version : goal.returns-clause-no_version
returns-clause-no_version c = NoVersions.addition_left_out
