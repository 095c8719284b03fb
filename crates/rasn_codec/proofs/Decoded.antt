-- What a call answered, by whether that is an error.
use Rattle.std.proofs.Common.{◌≡◌, true, false, refl, Result, Ok, Err}
use Rattle.std.specs.Result.{is_err}

pub refused : {T E : Type 0} (r : Result T E) → true ≡ is_err r → (e : E) × (r ≡ Err e)
refused (Err e) h = (e, refl)
refused (Ok x) h = absurd (let f : true ≡ false = h in cc)

pub answered : {T E : Type 0} (r : Result T E) → false ≡ is_err r → (x : T) × (r ≡ Ok x)
answered (Ok x) h = (x, refl)
answered (Err e) h = absurd (let f : false ≡ true = h in cc)
