use Rattle.versions_of_samples.proofs.Nests
use Rattle.versions_of_samples.proofs.recursive.recursive_records_are_lawful.Goals as goal

pub returns-clause-nest : goal.returns-clause-nest
returns-clause-nest c = Nests.nest_is_lawful

pub returns-clause-dated : goal.returns-clause-dated
returns-clause-dated c = Nests.dnest_is_lawful

pub returns-clause-ping : goal.returns-clause-ping
returns-clause-ping c = Nests.ping_is_lawful

pub returns-clause-pong : goal.returns-clause-pong
returns-clause-pong c = Nests.pong_is_lawful
