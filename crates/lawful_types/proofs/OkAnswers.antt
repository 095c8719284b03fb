-- What follows where a call answered `Ok`.
use Rattle.std.proofs.Common.{Result, Ok, Err}
use Rattle.std.specs.Prelude.{IfOk}

pub then : {T E : Type 0} {A B : Type 0} (r : Result T E) → IfOk r (λ x. A) → (A → B) → IfOk r (λ x. B)
then (Ok x) h f = f h
then (Err e) h f = tt

pub then_both : {T E : Type 0} {A B C : Type 0} (r : Result T E) → IfOk r (λ x. A) → IfOk r (λ x. B) → (A → B → C) → IfOk r (λ x. C)
then_both (Ok x) h k f = f h k
then_both (Err e) h k f = tt

pub then_all : {T E : Type 0} {A B C D : Type 0} (r : Result T E) → IfOk r (λ x. A) → IfOk r (λ x. B) → IfOk r (λ x. C) → (A → B → C → D) → IfOk r (λ x. D)
then_all (Ok x) h k l f = f h k l
then_all (Err e) h k l f = tt
