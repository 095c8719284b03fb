use Rattle.versions_of_samples.proofs.Nests
use Rattle.versions_of_samples.proofs.recursive.records_of_recursive_ones_are_lawful.Goals as goal

pub returns-clause-added : goal.returns-clause-added
returns-clause-added c = Nests.added_nest_is_lawful

pub returns-clause-deep : goal.returns-clause-deep
returns-clause-deep c = Nests.deep_is_lawful
