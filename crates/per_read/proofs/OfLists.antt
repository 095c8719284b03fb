-- What kinds say of lists, which tests show too.
use Rattle.std.proofs.Common.{◌≡◌, ◌⊎◌, sym, subst, ℕ, ◌+◌, ◌-◌, Bool, true, false, cond, ltb, Option, Some, None}
use Rattle.std.proofs.lemmas.Bool.{lt-ltb}
use Rattle.rasn_types.specs.Bits.{Bits}
use Rattle.rasn_constraints.specs.Bounds.{Size}
use Rattle.per_core.specs.Spellings.{Settings, Spelling}
use Rattle.per_core.proofs.ConstrainedLengths.{IsConstrained}
use Rattle.per_core.specs.SizeFaults.{AreUncounted, IsOfList, IsOfListCount, IsOfNextLength, IsOfNone, IsOfOpening}
use Rattle.per_read.specs.Kinds.{IsTested}
use Rattle.per_core.specs.NumberFaults.{IsOfConstrained}
use Rattle.per_core.specs.declared.decode_error.DecodeErrorKind.{DecodeErrorKind}
use Rattle.per_core.specs.declared.decode_error.DecodeErrorKind.TheVariants.{ExceedsMaxLength}
use Rattle.per_core.specs.declared.decode_error.DecodeErrorKind.TheVariants.{SizeConstraintNotSatisfied}
use Rattle.per_read.proofs.OfFields.{constrained_tested, marked_tested}

module _ {X : Type 0} (a : Settings) (size : Size) (mark : Bool) (item : X → Spelling) (s : Bits) where
  abbrev pub IsWithinList : DecodeErrorKind → Type 0
  IsWithinList k = IsOfOpening a size mark s k ⊎ (IsOfNextLength a size mark item s k ⊎ ((k ≡ ExceedsMaxLength) × AreUncounted a size mark item s))

  pub of_list : (k : DecodeErrorKind) → IsTested k → IsWithinList k → IsOfList a size mark item s k
  of_list (SizeConstraintNotSatisfied told) h w = absurd h
  of_list _ h w = w

-- the opening
count_tested : (a : Settings) (l u : Option ℕ) (s : Bits) (k : DecodeErrorKind) → IsOfListCount a l u s k → IsTested k
count_tested a None u s k h = absurd h
count_tested a (Some lb) None s k h = absurd h
count_tested a (Some lb) (Some ub) s k h = go (ltb ub 65536) h
  where
    go : (b : Bool) → cond b (IsOfConstrained a (ub - lb + 1)) IsOfNone s k → IsTested k
    go true x = constrained_tested a (ub - lb + 1) s k x
    go false x = absurd x

pub opening_tested : (a : Settings) (size : Size) (mark : Bool) (s : Bits) (k : DecodeErrorKind) → IsOfOpening a size mark s k → IsTested k
opening_tested a size mark s k h = marked_tested (IsOfListCount a size.least size.most) IsOfNone mark s k (λ t x. count_tested a size.least size.most t k x) (λ t x. absurd x) h

pub of_list_count : (a : Settings) (s : Bits) (k : DecodeErrorKind) {l u : Option ℕ} {lb ub : ℕ} → IsConstrained l u lb ub → IsOfConstrained a (ub - lb + 1) s k → IsOfListCount a l u s k
of_list_count a s k {lb = lb} {ub} h w = rw (h.lower, h.upper) (subst (λ b. cond b (IsOfConstrained a (ub - lb + 1)) IsOfNone s k) (sym (lt-ltb ub 65536 h.few)) w)
