-- Refusals from others.
use Rattle.std.proofs.Common.{◌≡◌, ◌⊎◌, inl, inr}
use Rattle.per_core.specs.declared.decode_error.DecodeErrorKind.{DecodeErrorKind}
use Rattle.per_core.specs.declared.decode_error.DecodeErrorKind.TheVariants.{OutOfMemory}

pub faulty_map : {P Q A B : Type 0} (k : DecodeErrorKind) → (P → Q) → (A → B) → (k ≡ OutOfMemory) ⊎ (P × A) → (k ≡ OutOfMemory) ⊎ (Q × B)
faulty_map k g f (inl e) = inl e
faulty_map k g f (inr h) = inr (g h.0, f h.1)
