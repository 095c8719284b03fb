use Rattle.rasn_dynamic.proofs.NamedBits.{bits_alone}
use Rattle.rasn_dynamic.proofs.defaults.are_named_bits.Goals as goal

pub returns-in-Some : goal.returns-in-Some
returns-in-Some c = rw c.in-Some.ensures c.are_told.ensures

pub returns-in-None : goal.returns-in-None
returns-in-None c = rw (bits_alone _ _ c.in-None.ensures) c.is_default.ensures
