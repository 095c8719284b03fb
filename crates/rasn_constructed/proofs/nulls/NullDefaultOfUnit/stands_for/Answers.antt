use Rattle.std.proofs.Common.{refl}
use Rattle.rasn_types.specs.Values.{code, same}
use Rattle.rasn_schema.specs.Normal.{normal}
use Rattle.rasn_constructed.proofs.nulls.NullDefaultOfUnit.stands_for.Goals as goal

pub returns : goal.returns
unfolding normal same code
returns c = record { at = λ n le. refl }
