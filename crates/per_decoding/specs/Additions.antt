-- What a decoder reads of the additions of an open record (X.691 19.7 to 19.9), and of the open type of one (11.2), and
-- of octets that contain a value.
use Rattle.std.specs.Prelude.{◌≡◌, ◌≤◌, ◌⊎◌, ◌-◌, ℕ, suc, Bool, true, false, List, [], length, Option, Some, None}
use Rattle.rasn_types.specs.Bits.{Bits, unpack}
use Rattle.rasn_types.specs.Values.{Value}
use Rattle.rasn_schema.specs.Schemas.{Schema}
use Rattle.per_core.specs.Basic.{Octets, OpenOf, basic}
use Rattle.per_core.specs.Spellings.{Took}
use Rattle.per_core.specs.ItemCounts.{item_count, most_items, HasAtMost}
use Rattle.per_core.specs.AdditionFaults.{NextFlag, Extension, shown, Shown}
use Rattle.per_read.specs.Ends.{EndsAs}
use Rattle.per_decoding.specs.State.{Source, Spells, State, settings_of, with_bits}

-- X.691 19.7, 19.8: the next presence bit of the additions, where one of the type is still to be asked for. A bitmap
-- that is still ahead is taken first, which is after the root components, so all their presence bits were read.
pub record Asks (s : State) (flag : Option Bool) (m : State) : Type 0 where
  pub live : s.failed ≡ false
  pub done : s.presences ≡ []
  pub counted : s.expected ≡ suc m.expected
  pub flags : List Bool
  pub rest : List Bool
  pub taken : Took (Shown (settings_of s) s.extension flags) s.bits m.bits
  pub next : NextFlag flags flag rest
  pub same : m ≡ record s { bits = m.bits; extension = shown rest; expected = m.expected }

-- X.691 19.9: the next addition is there, a value in an open type. It has at most 65535 items, and 8192 for each bit
-- that was taken, those of the bitmap among them, and so has each value within it, but for a default that stands for an
-- absent part (11.9, 19.5).
pub record AddsValue (c : Schema) (s : State) (v : Value) (t : State) : Type 0 where
  pub middle : State
  pub asks : Asks s (Some true) middle
  pub took : Took (OpenOf (settings_of s) (basic (settings_of s) c) v) middle.bits t.bits
  pub same : t ≡ with_bits middle t.bits
  pub few : item_count v ≤ most_items (length s.bits - length t.bits)
  pub within : HasAtMost (most_items (length s.bits - length t.bits)) c v

-- X.691 19.9: the next addition: a value in an open type; or none, as its presence bit says, or past the end of the
-- bitmap
abbrev pub Adds : Schema → State → Option Value → State → Type 0
Adds c s (Some v) t = AddsValue c s v t
Adds c s None t = Asks s (Some false) t ⊎ Asks s None t

-- What waits outside while the open type of an addition is open: the bits after it, those in which they stand, what is
-- still to be read of the record, and how many bits the contents had.
pub record OutsideAddition : Type 0 where
  pub bits : Bits
  pub source : Source
  pub presences : Bits
  pub extension : Extension
  pub expected : ℕ
  pub total : ℕ

-- The contents of an open type are entered: what is still to be read of a record waits outside, and nothing of one is
-- read inside (X.691 11.2).
pub record EntersContents (contents : Bits) (s : State) (w : OutsideAddition) (i : State) : Type 0 where
  pub inside : i.bits ≡ contents
  pub waits : w ≡ record {
    bits = s.bits;
    source = s.source;
    presences = s.presences;
    extension = s.extension;
    expected = s.expected;
    total = length contents;
  }
  pub same : i ≡ record s { bits = i.bits; source = i.source; presences = []; extension = shown []; expected = 0 }

-- an open type's contents are entered after its length
pub record OpensContents (s : State) (w : OutsideAddition) (i : State) : Type 0 where
  pub octets : List ℕ
  pub took : Took (Octets (settings_of s) octets) s.bits w.bits
  pub enters : EntersContents (unpack octets) (with_bits s w.bits) w i

-- Octets that contain a value are an open type, which is entered where no call has refused (X.682, 11; X.691, 11.2). No
-- level is taken.
pub record OpensContaining (s : State) (w : OutsideAddition) (i : State) : Type 0 where
  pub live : s.failed ≡ false
  pub opens : OpensContents s w i

-- Inside the contents of the next addition's open type, a complete encoding from its own start, nothing of the record
-- is read (X.691 11.2, 19.9).
pub record OpensAddition (s : State) (w : OutsideAddition) (i : State) : Type 0 where
  pub middle : State
  pub asks : Asks s (Some true) middle
  pub octets : List ℕ
  pub took : Took (Octets (settings_of s) octets) middle.bits w.bits
  pub contents : i.bits ≡ unpack octets
  pub waits : w ≡ record {
    bits = w.bits;
    source = middle.source;
    presences = middle.presences;
    extension = middle.extension;
    expected = middle.expected;
    total = length (unpack octets);
  }
  pub same : i ≡ record middle { bits = i.bits; source = i.source; presences = []; extension = shown []; expected = 0 }

-- after an open type, with what waited outside
abbrev pub with_outside_addition : State → OutsideAddition → State
with_outside_addition j w = record j {
  bits = w.bits;
  source = w.source;
  presences = w.presences;
  extension = w.extension;
  expected = w.expected;
}

-- After the open type, where what is left of the contents ends them (X.691 11.1).
pub record ClosesAddition (j : State) (w : OutsideAddition) (t : State) : Type 0 where
  pub live : j.failed ≡ false
  pub ends : EndsAs (settings_of j) j.bits w.total
  pub same : t ≡ with_outside_addition j w

-- A value is what is read between opening and closing the open type of an addition, or octets that contain it.
pub record InOpen (c : Schema) (i : State) (w : OutsideAddition) (v : Value) (t : State) : Type 0 where
  pub end : State
  pub reads : Spells c i v end
  pub closes : ClosesAddition end w t
