-- Writing through to where the output goes.
use Rattle.std.proofs.Common.{Result, Ok, Err, OnOk}

-- what holds whatever a result is holds of a success
pub on_ok : {A E : Type 0} {P : Type 0} (r : Result A E) → P → OnOk r P
on_ok (Ok x) p = p
on_ok (Err e) p = tt
