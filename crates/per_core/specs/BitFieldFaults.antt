-- Of which field a refusal is: the bits end within one, and it says how many are missing, or they are nothing that may
-- be there (ITU-T X.691, 11).
use Rattle.std.specs.Prelude.{◌≡◌, ◌⊎◌, ◌+◌, ◌-◌, ◌*◌, ◌^◌, ◌<◌, ◌≤◌, ℕ, Bool, true, false, [], ◌∷◌, ◌++◌, length}
use Rattle.rasn_types.specs.Bits.{Bits}
use Rattle.rasn_constraints.specs.Bounds.{count_of}
use Rattle.per_core.specs.Spellings.{AnyPadding, BitField, Settings, Spelling, ZeroIf, exactly, Took, bit_offset}
use Rattle.per_core.specs.Writers.{pad}
use Rattle.per_core.specs.Lengths.{LengthOf}
use Rattle.per_core.specs.Lengths as lengths
use Rattle.per_core.specs.declared.decode_error.DecodeErrorKind.{DecodeErrorKind}
use Rattle.per_core.specs.declared.decode_error.DecodeErrorKind.TheVariants.{ExceedsMaxLength, Incomplete, ParserFail}
use Rattle.per_core.specs.declared.decode_error.ParserFailCause.TheVariants.{FragmentCode, NonzeroPadding}
use Rattle.per_core.specs.declared.lengths.Length.{Length}
use Rattle.per_core.specs.declared.lengths.Length.TheVariants.{Fragment}

-- what a kind says of the first of bits
abbrev pub Says : Type 1
Says = Bits → DecodeErrorKind → Type 0

-- of a field of w bits: they end within it, and it says how many are missing
pub record IsOfBitField (w : ℕ) (s : Bits) (k : DecodeErrorKind) : Type 0 where
  pub short : length s < w
  pub missing : k ≡ Incomplete (count_of (w - length s))

-- of what is after a spelling
abbrev pub Behind : Spelling → Says → Says
Behind f says s k = (t : Bits) × Took f s t × says t k

-- of what is first, or of what is after it
abbrev pub InTurn : Says → Spelling → Says → Says
InTurn first f says s k = first s k ⊎ Behind f says s k

-- of an extension bit, or of what is after it as it says
abbrev pub IsOfMarked : Bool → Says → Says → Says
IsOfMarked false inside outside s k = inside s k
IsOfMarked true inside outside s k = IsOfBitField 1 s k
    ⊎ (Behind (exactly (false ∷ [])) inside s k ⊎ Behind (exactly (true ∷ [])) outside s k)

-- the bits up to the next octet aren't zero, which they must be
pub record AreNonzero (a : Settings) (s : Bits) : Type 0 where
  pub padding : Bits
  pub rest : Bits
  pub joins : s ≡ padding ++ rest
  pub fits : length padding ≡ pad a.variant (bit_offset s)
  pub nonzero : ZeroIf a.strict padding → ⊥

-- of padding
abbrev pub IsOfPadding : Settings → Says
IsOfPadding a s k = (k ≡ ParserFail NonzeroPadding) × AreNonzero a s

-- of a field of w bits, and of padding before it
abbrev pub IsOfPadded : Settings → ℕ → Says
IsOfPadded a w = InTurn (IsOfPadding a) (AnyPadding a) (IsOfBitField w)

-- X.691 11.9.3.6 to 11.9.3.8: how wide the next field of a length is after its first bits
abbrev pub count_field : Bits → ℕ
count_field [] = 1
count_field (false ∷ []) = 7
count_field (true ∷ []) = 1
count_field (true ∷ false ∷ []) = 14
count_field (true ∷ true ∷ []) = 6
count_field front = 0

-- X.691 11.9.3.8: a fragment's octet counts none, or more than four times 16384 items
pub record IsMiscoded (s : Bits) : Type 0 where
  pub times : ℕ
  pub rest : Bits
  pub other : (times < 1) ⊎ (4 < times)
  pub took : Took (BitField 8 (192 + times)) s rest

-- of a length
abbrev pub IsOfCount : Says
IsOfCount s k = ((front : Bits) × Behind (exactly front) (IsOfBitField (count_field front)) s k)
    ⊎ ((k ≡ ParserFail FragmentCode) × IsMiscoded s)

-- of a length, and of padding before it
abbrev pub IsOfLength : Settings → Says
IsOfLength a = InTurn (IsOfPadding a) (AnyPadding a) IsOfCount

-- X.691 11.9.3.5 to 11.9.3.8: of items of w bits each in fragments, after n others: of a length, of the items that it
-- counts, in that there are more than can be counted, or so after a whole fragment
pub data IsOfFragments (a : Settings) (w : ℕ) (k : DecodeErrorKind) : ℕ → Bits → Type 0 where
  in_length : {n : ℕ} {s : Bits} → IsOfLength a s k → IsOfFragments a w k n s
  in_items : {n : ℕ} {s m : Bits} (l : Length) → Took (LengthOf a l) s m → IsOfBitField (w * lengths.count_of l) m k
      → IsOfFragments a w k n s
  too_many : {n : ℕ} {s m : Bits} (l : Length) → Took (LengthOf a l) s m → 2 ^ 64 ≤ n + lengths.count_of l
      → k ≡ ExceedsMaxLength → IsOfFragments a w k n s
  past_fragment : {n j : ℕ} {s m r : Bits} (items : Bits) → Took (LengthOf a (Fragment j)) s m → m ≡ items ++ r
      → length items ≡ w * j → IsOfFragments a w k (n + j) r → IsOfFragments a w k n s

-- of items of w bits each after an unconstrained length
abbrev pub IsOfUnconstrained : Settings → ℕ → Says
IsOfUnconstrained a w s k = IsOfFragments a w k 0 s
