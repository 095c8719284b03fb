use Rattle.per_laws.proofs.named_bits.names_change_nothing_that_is_read.Goals as goal
use Rattle.per_laws.proofs.Nameless

pub returns-clause-whole : goal.returns-clause-whole
returns-clause-whole c = Nameless.fills_alike

pub returns-clause-in_front : goal.returns-clause-in_front
returns-clause-in_front c = Nameless.front_alike

pub returns-clause-known : goal.returns-clause-known
returns-clause-known c = Nameless.known_alike
