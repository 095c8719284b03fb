use Rattle.rasn_schema.specs.Lawful.{is_value}
use Rattle.lawful_types.proofs.defaults.is_default_of_plain.Goals as goal

pub returns-in-Open : goal.returns-in-Open
unfolding is_value
returns-in-Open c = rw c.in-Open.is c.are_octets.ensures
