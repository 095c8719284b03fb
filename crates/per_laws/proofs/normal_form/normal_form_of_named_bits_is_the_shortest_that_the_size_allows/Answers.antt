use Rattle.per_laws.proofs.normal_form.normal_form_of_named_bits_is_the_shortest_that_the_size_allows.Goals as goal
use Rattle.per_laws.proofs.Named

pub returns-clause-same : goal.returns-clause-same
returns-clause-same c = Named.mean_the_same

pub returns-clause-shortest : goal.returns-clause-shortest
returns-clause-shortest c = Named.are_fewest
