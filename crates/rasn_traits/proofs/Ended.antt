-- What a call around a function answers that leaves its codec failed in whatever way it returns.
use Rattle.std.proofs.Common.{◌≡◌, refl, Bool, true, Result, Ok, Err}
use Rattle.std.specs.Prelude.{IsErr, IsErrAnd}
use Rattle.rasn_traits.specs.Scopes.{Ends, ends_before, ends_refused, ends_left}

refused : {A E : Type 0} (r : Result A E) (P : E → Type 0) → IsErrAnd r P → IsErr r
refused (Ok v) P h = absurd h
refused (Err e) P h = refl

pub ended_in_error : {E X T A : Type 0} (already : E → X → Type 0) (failed : X → Bool)
    (returns : X → Result T E → X → Type 0) (r : Result A E)
    → ((i : X) (q : Result T E) (j : X) → returns i q j → failed j ≡ true) → Ends already failed returns r → IsErr r
ended_in_error already failed returns r f (ends_before h) = h
ended_in_error already failed returns r f (ends_refused h e) = rw e refl
ended_in_error already failed returns r f (ends_left {i = i} {j = j} {t = t} h again) =
    refused r (λ e. already e j) (again (f i (Ok t) j h))
