-- What opening and closing a record do to a decoder (X.691 19).
use Rattle.std.specs.Prelude.{◌≡◌, ℕ, suc, Bool, true, false, List, [], ◌++◌, length, Option, Result, Ok, Err}
use Rattle.rasn_types.specs.Bits.{Bits}
use Rattle.rasn_types.specs.Values.{Value}
use Rattle.rasn_schema.specs.Structures.{presence_bits, record_value}
use Rattle.rasn_schema.specs.Normal.{additions_of, root_of}
use Rattle.rasn_schema.specs.Schemas.{Schema, Parts, count}
use Rattle.rasn_traits.specs.Scopes.{ReadsFields}
use Rattle.per_core.specs.Basic.{ExtensionBit, Unknown}
use Rattle.per_core.specs.Spellings.{Then, Took}
use Rattle.per_core.specs.declared.decode_error.DecodeError.{DecodeError}
use Rattle.per_core.specs.declared.decode_error.DecodeErrorKind.TheVariants.{ExceedsMaxParseDepth}
use Rattle.per_core.specs.AdditionFaults.{Shown, Extension, extension_of, shown}
use Rattle.per_decoding.specs.Faults.{refusal}
use Rattle.per_decoding.specs.Rules.{plain_rules}
use Rattle.per_decoding.specs.State.{State, refused, settings_of, with_bits}

-- What waits outside while a scope is open: the levels that may be entered there, and what is still to be read of the
-- record there.
pub record OutsideRecord : Type 0 where
  pub levels : ℕ
  pub presences : Bits
  pub extension : Extension
  pub expected : ℕ

-- what a decoder has of it
abbrev pub outside_record : State → OutsideRecord
outside_record s = record { levels = s.levels; presences = s.presences; extension = s.extension; expected = s.expected }

-- a decoder that has it
abbrev pub with_outside_record : State → OutsideRecord → State
with_outside_record s w = record s {
  levels = w.levels;
  presences = w.presences;
  extension = w.extension;
  expected =
      w.expected;
}

-- what waits where so many levels are left and nothing of a record is to be read
abbrev pub no_record : ℕ → OutsideRecord
no_record n = record { levels = n; presences = []; extension = shown []; expected = 0 }

-- how many levels may be entered one level deeper; at no level left the decoder refuses
abbrev pub LevelInside : State → Result ℕ DecodeError → State → Type 0
LevelInside s (Ok n) t = (s.levels ≡ suc n) × (t ≡ s)
LevelInside s (Err e) t = (s.levels ≡ 0) × (e ≡ refusal ExceedsMaxParseDepth s) × (t ≡ refused s)

-- A scope is entered with other levels and another record to read: those from before wait outside, and all else is as
-- before.
pub record Enters (n : OutsideRecord) (s : State) (w : OutsideRecord) (i : State) : Type 0 where
  pub waits : w ≡ outside_record s
  pub same : i ≡ with_outside_record s n

-- whether a record has an extension marker
abbrev pub is_extensible : Schema → Bool
is_extensible (Schema.sequence o ps marker qs) = marker
is_extensible _ = false

-- Inside a record a level is entered: the extension bit was taken, where there is a marker, and the presence bits of
-- the root components (X.691 19.1, 19.2).
pub record Opens (c : Schema) (s : State) (w : OutsideRecord) (i : State) : Type 0 where
  pub live : s.failed ≡ false
  pub deeper : s.levels ≡ suc i.levels
  pub extends : Bool
  pub taken : Took (ExtensionBit (is_extensible c) extends) s.bits (i.presences ++ i.bits)
  pub presence_count : length i.presences ≡ presence_bits (root_of c)
  pub shows : i.extension ≡ extension_of extends
  pub counts : i.expected ≡ count (additions_of c)
  pub enters : Enters (outside_record i) (with_bits s i.bits) w i

-- After it, where each presence bit was read and each addition was asked for, the additions that the schema doesn't
-- know were skipped, and the level is given back, and what waited outside (X.691 19.9). A bitmap that is still ahead is
-- taken first.
pub record Closes (s : State) (w : OutsideRecord) (t : State) : Type 0 where
  pub live : s.failed ≡ false
  pub done : s.presences ≡ []
  pub none : s.expected ≡ 0
  pub flags : List Bool
  pub skipped : Took (Then (Shown (settings_of s) s.extension flags) (Unknown (settings_of s) flags)) s.bits t.bits
  pub same : t ≡ with_outside_record (with_bits s t.bits) w

-- A value is what is read between opening and closing a record: its root components and its additions in turn.
pub record InScope (ps qs : Parts) (i : State) (w : OutsideRecord) (v : Value) (t : State) : Type 0 where
  pub roots : List (Option Value)
  pub additions : List (Option Value)
  pub end : State
  pub is : v ≡ record_value roots additions
  pub reads : ReadsFields plain_rules ps qs i roots additions end
  pub closes : Closes end w t
