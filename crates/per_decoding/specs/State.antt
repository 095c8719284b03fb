-- What a decoder holds, and what its calls read.
use Rattle.std.specs.Prelude.{◌≡◌, ◌≤◌, ◌-◌, ℕ, Bool, true, false, [], ◌∷◌, drop, length}
use Rattle.rasn_types.specs.Bits.{Bits}
use Rattle.rasn_types.specs.Values.{Value}
use Rattle.rasn_types.specs.declared.types.Codec.{Codec}
use Rattle.rasn_schema.specs.Schemas.{Schema}
use Rattle.per_bits.specs.Octets.{Reading}
use Rattle.per_core.specs.Spellings.{Settings, Took}
use Rattle.per_core.specs.Basic.{basic}
use Rattle.per_core.specs.ItemCounts.{item_count, most_items, HasAtMost}
use Rattle.per_read.specs.Options.{settings}
use Rattle.per_read.specs.ReaderState.{ReaderState as Taking}
use Rattle.per_read.specs.declared.ReaderOptions.{ReaderOptions}
use Rattle.per_decoding.specs.Turns.{Turn, next, uncounted}
use Rattle.per_core.specs.AdditionFaults.{Extension, shown}

-- What a decoder is told: the codec, how many levels of values it may enter, and whether padding must be zero.
pub record Options : Type 0 where
  pub codec : Codec
  pub levels : ℕ
  pub zero_padding : Bool

-- The bits in which those stand that a decoder has left: those of the input, or of an open type in fragments; how many
-- of them are after those that are left, which reading from the front doesn't change; how many bits of its octet
-- stand in front of the first of them; and whether they are the input's, of which octets can be lent.
pub record Source : Type 0 where
  pub bits : Bits
  pub behind : ℕ
  pub place : ℕ
  pub lends : Bool

-- the bits of an input
abbrev pub input_of : Reading → Source
input_of input = record { bits = input.bits; behind = 0; place = input.place; lends = true }

-- bits of which the first begins an octet
abbrev pub from_octet : Bits → Reading
from_octet bits = record { bits = bits; place = 0 }

-- What a decoder holds: the bits that are left, whether a call has refused, how many levels it may still enter, the
-- codec in use, whether padding must be zero, and of the open record the presence bits of the root components that are
-- still to be read, the bitmap of its additions, and how many additions of its type are still to be asked for. `source`
-- is where the bits that are left come from. The position in an octet follows from the number of bits that are left
-- (`place`). `turn` is how many components are still to come in the open scope.
pub record State : Type 0 where
  pub bits : Bits
  pub failed : Bool
  pub levels : ℕ
  pub codec : Codec
  pub zero_padding : Bool
  pub presences : Bits
  pub source : Source
  pub extension : Extension
  pub expected : ℕ
  pub turn : Turn

-- what has read nothing of a source
abbrev pub fresh_of : Source → Options → State
fresh_of source options = record {
  bits = source.bits;
  failed = false;
  levels = options.levels;
  codec = options.codec;
  zero_padding = options.zero_padding;
  presences = [];
  source = source;
  extension = shown [];
  expected = 0;
  turn = uncounted;
}

-- what has read nothing of an input
abbrev pub fresh : Reading → Options → State
fresh input options = fresh_of (input_of input) options

-- how it reads
abbrev pub options_of : State → ReaderOptions
options_of s = record { codec = s.codec; zero_padding = s.zero_padding }

-- the settings in use
abbrev pub settings_of : State → Settings
settings_of s = settings (options_of s)

-- a reader of the bits that are left
abbrev pub reader_of : State → Taking
reader_of s = record { bits = s.bits; options = options_of s }

-- a decoder's state with other bits left
abbrev pub with_bits : State → Bits → State
with_bits s b = record s { bits = b }

-- a decoder's state with the last so many bits left
abbrev pub with_last : State → ℕ → State
with_last s n = with_bits s (drop (length s.bits - n) s.bits)

-- a decoder's state with so much to come in the open scope
abbrev pub with_turn : Turn → State → State
with_turn x s = record s { turn = x }

-- a component is noted, as a value begins, or where its presence bit says that it is left out
abbrev pub noting : State → State
noting s = with_turn (next s.turn) s

-- where a presence bit is read: one that is 0 is a component
abbrev pub noting_bit : Bool → State → State
noting_bit true s = s
noting_bit false s = noting s

-- what has refused
abbrev pub refused : State → State
refused s = record s { failed = true; turn = uncounted }

-- A front of the bits that are left spells a value, and the bits after it are left. The value has at most 65535 items,
-- and 8192 for each bit that was taken, and so has each value within it, but for a default that stands for an absent
-- part (X.691 11.9, 19.5).
pub record Spells (c : Schema) (s : State) (v : Value) (t : State) : Type 0 where
  pub live : s.failed ≡ false
  pub took : Took (basic (settings_of s) c v) s.bits t.bits
  pub same : t ≡ with_bits s t.bits
  pub few : item_count v ≤ most_items (length s.bits - length t.bits)
  pub within : HasAtMost (most_items (length s.bits - length t.bits)) c v

-- The next presence bit of the root components of the open record.
pub record Marks (s : State) (b : Bool) (t : State) : Type 0 where
  pub live : s.failed ≡ false
  pub first : s.presences ≡ b ∷ t.presences
  pub same : t ≡ record s { presences = t.presences }
