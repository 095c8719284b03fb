-- What kinds say of bitmaps and of unknown additions, which tests show too.
use Rattle.std.proofs.Common.{sym, subst, inl, inr, Bool, List, [], ◌∷◌, true, false}
use Rattle.rasn_types.specs.Bits.{Bits}
use Rattle.per_core.specs.Spellings.{Settings}
use Rattle.per_core.specs.AdditionFaults.{IsOfBitmap, IsOfLargeBitmap, IsOfSmallBitmap, IsOfUnknown}
use Rattle.per_read.specs.Kinds.{IsTested}
use Rattle.per_core.specs.declared.decode_error.DecodeErrorKind.{DecodeErrorKind}
use Rattle.per_read.proofs.Calls.{of_short}
use Rattle.per_read.proofs.OfFields.{marked_tested, unconstrained_tested}

small_tested : (s : Bits) (k : DecodeErrorKind) → IsOfSmallBitmap s k → IsTested k
small_tested s k (inl h) = of_short k h
small_tested s k (inr h) = of_short k h.1.2

large_tested : (a : Settings) (s : Bits) (k : DecodeErrorKind) → IsOfLargeBitmap a s k → IsTested k
large_tested a s k (inl h) = unconstrained_tested k h
large_tested a s k (inr h) = subst IsTested (sym h.0) tt

pub bitmap_tested : (a : Settings) (s : Bits) (k : DecodeErrorKind) → IsOfBitmap a s k → IsTested k
bitmap_tested a s k h = marked_tested IsOfSmallBitmap (IsOfLargeBitmap a) true s k (λ t x. small_tested t k x) (λ t x. large_tested a t k x) h

pub unknown_tested : (flags : List Bool) (a : Settings) (s : Bits) (k : DecodeErrorKind) → IsOfUnknown flags a s k → IsTested k
unknown_tested [] a s k h = absurd h
unknown_tested (false ∷ flags) a s k h = unknown_tested flags a s k h
unknown_tested (true ∷ flags) a s k (inl h) = unconstrained_tested k h
unknown_tested (true ∷ flags) a s k (inr h) = unknown_tested flags a h.0 k h.2
