-- Where the bits come from that a decoder reads, and which of them it means.
use Rattle.std.specs.Prelude.{◌<◌, ◌≤◌, ◌≡◌, ◌+◌, ◌-◌, ◌*◌, ◌%◌, ℕ, List, Bool, true, false, drop, length}
use Rattle.std.specs.List.{between}
use Rattle.rasn_types.specs.Bits.{AreOctets, Bits, unpack}
use Rattle.per_decoding.specs.State
use Rattle.per_core.specs.AdditionFaults
use Rattle.per_core.specs.AdditionFaults.{ahead, shown}
use Rattle.per_decoding.specs.declared.source.Source.{Source}
use Rattle.per_decoding.specs.declared.source.Source.TheVariants.{Input, Gathered}
use Rattle.per_decoding.specs.declared.source.Span.{Span}
use Rattle.per_decoding.specs.declared.source.Flags.{Flags}
use Rattle.per_decoding.specs.declared.source.Flags.TheVariants as Kept
use Rattle.per_decoding.specs.declared.source.Extension.{Extension}
use Rattle.per_decoding.specs.declared.source.Extension.TheVariants as Left

-- all bits of a source
abbrev pub bits_of : Source → Bits
bits_of (Input reading) = reading.bits
bits_of (Gathered octets) = unpack octets.items

-- how many bits of its octet stand in front of the first of them
abbrev pub place_of : Source → ℕ
place_of (Input reading) = reading.place
place_of (Gathered octets) = 0

-- whether they are the input's, of which octets can be lent
abbrev pub lends : Source → Bool
lends (Input reading) = true
lends (Gathered octets) = false

-- a source of which all bits are left
abbrev pub unread_of : Source → State.Source
unread_of source = record { bits = bits_of source; behind = 0; place = place_of source; lends = lends source }

-- a source, of which the bits up to the end of a span are left
abbrev pub up_to : Span → Source → State.Source
up_to span source = record {
  bits = bits_of source;
  behind = length (bits_of source) - span.end;
  place = place_of source;
  lends = lends source;
}

-- how many bits of its octet stand in front of the first of the bits that are left
abbrev pub place_left : State.State → ℕ
place_left s = (s.source.place + (length s.source.bits - (s.source.behind + length s.bits))) % 8

-- the bits from one place of a source up to another
abbrev pub span_of : Span → Bits → Bits
span_of span source = between span.begin span.end source

-- a part of some octets is the last n in front of the place of a bit
pub record AreOctetsOf (bits : Bits) (place n : ℕ) (part : List ℕ) : Type 0 where
  pub are : AreOctets part
  pub same : unpack part ≡ between (place - 8 * n) place bits

-- octets are all of some bits
pub record AreOctetsIn (bits : Bits) (part : List ℕ) : Type 0 where
  pub are : AreOctets part
  pub same : unpack part ≡ bits

-- n octets of a source in front of the place of a bit can be lent: at least one, on octets of the input
pub record AreInInput (source : Source) (place n : ℕ) : Type 0 where
  pub some : 0 < n
  pub input : lends source ≡ true
  pub on_octets : (place_of source + place) % 8 ≡ 0

-- a source has all of them
pub record IsWithin (span : Span) (source : Bits) : Type 0 where
  pub ordered : span.begin ≤ span.end
  pub enough : span.end ≤ length source

-- the presence bits of additions that are still to be read
abbrev pub flags_in : Bits → Flags → List Bool
flags_in source (Kept.InPlace span) = span_of span source
flags_in source (Kept.Gathered bits read) = drop read bits

-- what is still to be read of a bitmap
abbrev pub extension_in : Bits → Extension → AdditionFaults.Extension
extension_in source Left.Ahead = ahead
extension_in source (Left.InPlace span) = shown (span_of span source)
extension_in source (Left.Gathered bits read) = shown (drop read bits)
