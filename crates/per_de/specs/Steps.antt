-- The steps of a decoder's calls: what each takes off the front of the bits left, or why it refuses.
use Rattle.std.specs.Prelude.{◌≡◌, ◌-◌, ◌<◌, ◌≤◌, ◌⊎◌, ℕ, true, List, [], Bool, Option, length, Result, Ok, Err, OnOk}
use Rattle.std.specs.Prelude.{IfErr}
use Rattle.rasn_types.specs.Bits.{Bits}
use Rattle.rasn_types.specs.Values.{Side, added}
use Rattle.rasn_schema.specs.Schemas.{Schema}
use Rattle.rasn_schema.specs.declared.items.Place.{Place}
use Rattle.per_core.specs.Basic.{ExtensionBit, IsBitmap, Octets, Unknown, bit}
use Rattle.per_core.specs.Spellings.{Then, Took, NoneIn}
use Rattle.rasn_constraints.specs.Bounds.{count_of}
use Rattle.per_core.specs.IndexFaults.{IsOfIndex, index_form, IsOfExtension}
use Rattle.per_decoding.specs.ChoiceIndexes.{index_of}
use Rattle.per_core.specs.BitFieldFaults.{IsOfUnconstrained}
use Rattle.per_read.specs.Kinds.{Faulty}
use Rattle.per_read.specs.Takes.{Front}
use Rattle.per_core.specs.declared.decode_error.DecodeError.{DecodeError}
use Rattle.per_core.specs.declared.decode_error.DecodeErrorKind.{DecodeErrorKind}
use Rattle.per_core.specs.declared.decode_error.DecodeErrorKind.TheVariants.{ExceedsMaxParseDepth, Incomplete}
use Rattle.per_core.specs.declared.decode_error.DecodeErrorKind.TheVariants.{MissingTag, OutOfMemory}
use Rattle.per_core.specs.AdditionFaults as Bitmaps
use Rattle.per_core.specs.AdditionFaults.{IsOfUnknown, skipped_unknown, Shown, ahead, shown}
use Rattle.per_read.specs.Ends.{EndsAs}
use Rattle.per_core.specs.Ends.{IsOfEnd}
use Rattle.per_decoding.specs.Additions.{Asks, OpensContents, OutsideAddition, with_outside_addition}
use Rattle.per_decoding.specs.Choices.{StandsFrom}
use Rattle.per_decoding.specs.Faults.{IsOfNext, refusal}
use Rattle.per_decoding.specs.State.{State, refused, settings_of, with_bits}
use Rattle.per_de.specs.Outsides.{outside_contents_of, outside_addition_of}
use Rattle.per_decoding.specs.Sources.{flags_in, span_of}
use Rattle.per_de.specs.declared.Addition.{Addition}
use Rattle.per_decoding.specs.declared.source.Flags.{Flags}
use Rattle.per_decoding.specs.declared.source.Span.{Span}

-- A refusal of some kind, for a reason, after which the decoder has failed.
pub record RefusedAs (why : DecodeErrorKind → Type 0) (s : State) (e : DecodeError) (t : State) : Type 0 where
  pub kind : DecodeErrorKind
  pub is : e ≡ refusal kind s
  pub because : why kind
  pub failed : t.failed ≡ true
  pub codec : t.codec ≡ s.codec

-- Two levels are left, as many as a DATE takes (X.691 32); with fewer left the decoder refuses.
abbrev pub HasTwoLevels : State → Result (Unit {0}) DecodeError → State → Type 0
HasTwoLevels s (Ok u) t = (2 ≤ s.levels) × (t ≡ s)
HasTwoLevels s (Err e) t = (s.levels < 2) × (e ≡ refusal ExceedsMaxParseDepth s) × (t ≡ refused s)

-- So many presence bits are taken off the bits left, and stand in a part of the source; where fewer are left the
-- decoder refuses (X.691 19.2).
abbrev pub TakesPresences : ℕ → State → Result Span DecodeError → State → Type 0
TakesPresences n s (Ok p) t = Took (Front n (span_of p s.source.bits)) s.bits t.bits × (t ≡ with_bits s t.bits)
TakesPresences n s (Err e) t = (length s.bits < n) × (e ≡ refusal (Incomplete (count_of (n - length s.bits))) s)
    × (t ≡ refused s)

-- A bit is taken off the bits left; where none is left the decoder refuses.
abbrev pub TakesBit : State → Result Bool DecodeError → State → Type 0
TakesBit s (Ok b) t = Took (bit b) s.bits t.bits × (t ≡ with_bits s t.bits)
TakesBit s (Err e) t = (s.bits ≡ []) × (e ≡ refusal (Incomplete (count_of 1)) s) × (t ≡ refused s)

-- The extension bit is taken off the bits left, where there is a marker (X.691 19.1).
abbrev pub TakesExtensionBit : Bool → State → Result Bool DecodeError → State → Type 0
TakesExtensionBit marker s (Ok b) t = Took (ExtensionBit marker b) s.bits t.bits × (t ≡ with_bits s t.bits)
TakesExtensionBit marker s (Err e) t = RefusedAs (λ k. IsOfExtension marker s.bits k
    × NoneIn (ExtensionBit marker) s.bits) s e t

-- want of memory, or what a kind says of a bitmap, where none is at the front (X.691 19.7)
abbrev pub IsOfBitmap : State → DecodeErrorKind → Type 0
IsOfBitmap s = Faulty (Bitmaps.IsOfBitmap (settings_of s) s.bits) (NoneIn (IsBitmap (settings_of s)) s.bits)

-- want of memory, or what a kind says of octets after their length, where none stand at the front (X.691 11.2)
abbrev pub IsOfOctets : State → DecodeErrorKind → Type 0
IsOfOctets s = Faulty (IsOfUnconstrained (settings_of s) 8 s.bits) (NoneIn (Octets (settings_of s)) s.bits)

-- A bitmap is taken off the bits left (X.691 19.7, 19.8).
abbrev pub TakesBitmap : State → Result Flags DecodeError → State → Type 0
TakesBitmap s (Ok flags) t = Took (IsBitmap (settings_of s) (flags_in s.source.bits flags)) s.bits t.bits
    × (t ≡ with_bits s t.bits)
TakesBitmap s (Err e) t = RefusedAs (IsOfBitmap s) s e t

-- The presence bits of additions are taken out that are still to be read, and off the bits left where they are still
-- ahead (X.691 19.7, 19.8).
abbrev pub TakesFlags : State → Result Flags DecodeError → State → Type 0
TakesFlags s (Ok flags) t = Took (Shown (settings_of s) s.extension (flags_in s.source.bits flags)) s.bits t.bits
    × (t ≡ record s { bits = t.bits; extension = shown [] })
TakesFlags s (Err e) t = (s.extension ≡ ahead) × RefusedAs (IsOfBitmap s) s e t

-- An addition can't be asked for, whichever the schema.
pub record Unasked (e : DecodeError) (s : State) : Type 0 where
  pub none : (flag : Option Bool) (m : State) → Asks s flag m → ⊥
  pub codec : e.codec ≡ s.codec
  pub stands : (c : Schema) → IsOfNext e.kind c s

-- The next addition is asked for; Err, memory aside, comes only where none can be.
abbrev pub AsksNext : State → Result (Option Bool) DecodeError → State → Type 0
AsksNext s (Ok flag) t = Asks s flag t
AsksNext s (Err e) t = ((e ≡ refusal OutOfMemory s) ⊎ Unasked e s) × (t.failed ≡ true) × (t.codec ≡ s.codec)

-- Ok is inside an open type, and Err comes only where none is at the front, or for want of memory.
abbrev pub EntersOpen : State → Result Addition DecodeError → State → Type 0
EntersOpen s (Ok o) i = OpensContents s (outside_addition_of i.source o) i
EntersOpen s (Err e) i = RefusedAs (IsOfOctets s) s e i

-- The additions that the schema doesn't know are taken off the bits left (X.691 19.9).
abbrev pub SkipsUnknown : List Bool → State → Result (Unit {0}) DecodeError → State → Type 0
SkipsUnknown flags s (Ok u) t = Took (Unknown (settings_of s) flags) s.bits t.bits × (t ≡ with_bits s t.bits)
SkipsUnknown flags s (Err e) t = RefusedAs (λ k. IsOfUnknown flags (settings_of s) s.bits k
    × NoneIn (skipped_unknown flags (settings_of s)) s.bits) s e t

-- Presence bits of additions are left, or a bitmap with them is taken off the bits left, and an addition that they show
-- isn't there after it, which the schema doesn't know (X.691 19.9).
pub record IsUnskipped (s : State) (k : DecodeErrorKind) : Type 0 where
  pub flags : List Bool
  pub left : Bits
  pub shows : Took (Shown (settings_of s) s.extension flags) s.bits left
  pub says : IsOfUnknown flags (settings_of s) left k
  pub none : NoneIn (skipped_unknown flags (settings_of s)) left

-- What is left of the additions is taken off the bits left: the bitmap where it is still ahead, and the additions that
-- the schema doesn't know (X.691 19.7 to 19.9).
abbrev pub SkipsRest : State → Result (Unit {0}) DecodeError → State → Type 0
SkipsRest s (Ok u) t = (flags : List Bool) × Took (Then (Shown (settings_of s) s.extension flags)
    (Unknown (settings_of s) flags)) s.bits t.bits × (t ≡ record s { bits = t.bits; extension = shown [] })
SkipsRest s (Err e) t = ((s.extension ≡ ahead) × RefusedAs (IsOfBitmap s) s e t) ⊎ RefusedAs (IsUnskipped s) s e t

-- Whether what is left of contents of n bits ends them: Ok comes exactly where it does, and Err says why it doesn't,
-- where no more is left than they had (X.691 11.1).
pub record EndsContents (s : State) (n : ℕ) (result : Result (Unit {0}) DecodeErrorKind) : Type 0 where
  pub ok : OnOk result (EndsAs (settings_of s) s.bits n)
  pub none : IfErr result (λ k. EndsAs (settings_of s) s.bits n → ⊥)
  pub err : IfErr result (λ k. length s.bits ≤ n → IsOfEnd (settings_of s) s.bits n k)

-- each presence bit of the root components was read; else the decoder refuses
abbrev pub IsRootRead : State → Result (Unit {0}) DecodeError → State → Type 0
IsRootRead s (Ok u) t = (s.presences ≡ []) × (t ≡ s)
IsRootRead s (Err e) t = (s.presences ≡ [] → ⊥) × (e ≡ refusal MissingTag s) × (t ≡ refused s)

-- The index of a choice of so many alternatives is taken off the bits left (X.691 23.5 to 23.8).
abbrev pub TakesIndex : (roots addeds : ℕ) → (extensible : Bool) → State → Result Place DecodeError → State → Type 0
TakesIndex r e ext s (Ok place) t = Took (index_form (settings_of s) r e ext (index_of place)) s.bits t.bits
    × (t ≡ with_bits s t.bits)
TakesIndex r e ext s (Err err) t =
    RefusedAs (λ k. IsOfIndex (settings_of s) r e ext s.bits k × NoneIn
    (index_form (settings_of s) r e ext) s.bits) s err t

-- Ok is where an alternative of a list is read, and Err comes only where it would be in an open type, and none is at
-- the front, or for want of memory (X.691 23.7, 23.8).
abbrev pub EntersAlternative : Side → State → Result (Option Addition) DecodeError → State → Type 0
EntersAlternative d s (Ok o) i = StandsFrom d s (outside_contents_of i.source o) i
EntersAlternative d s (Err e) i = (d ≡ added) × RefusedAs (IsOfOctets s) s e i

-- What is left of an open type doesn't end it, and why, where no more is left than it had (X.691 11.1).
pub record Unended (w : OutsideAddition) (s : State) (k : DecodeErrorKind) : Type 0 where
  pub none : EndsAs (settings_of s) s.bits w.total → ⊥
  pub why : length s.bits ≤ w.total → IsOfEnd (settings_of s) s.bits w.total k

-- An open type is left, with what waited outside, where what is left of it ends it.
abbrev pub ClosesContents : OutsideAddition → State → Result (Unit {0}) DecodeError → State → Type 0
ClosesContents w s (Ok u) t = EndsAs (settings_of s) s.bits w.total × (t ≡ with_outside_addition s w)
ClosesContents w s (Err e) t = RefusedAs (Unended w s) s e t
