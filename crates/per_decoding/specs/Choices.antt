-- What opening and closing a choice do to a decoder (ITU-T X.691, 23).
use Rattle.std.specs.Prelude.{◌≡◌, ℕ, suc, false, length, Option, Some, None}
use Rattle.rasn_types.specs.Values.{Value, alternative, Side, root, added}
use Rattle.rasn_schema.specs.Structures.{tags_of}
use Rattle.rasn_schema.specs.Schemas.{Schema}
use Rattle.per_core.specs.Spellings.{Settings, Spelling, never, Took}
use Rattle.per_core.specs.IndexFaults.{index_form}
use Rattle.per_core.specs.declared.decode_error.DecodeError.{DecodeError}
use Rattle.per_read.specs.Ends.{EndsAs}
use Rattle.per_decoding.specs.Additions.{OpensContents, OutsideAddition, with_outside_addition}
use Rattle.per_decoding.specs.Faults.{UnendedAddition}
use Rattle.per_decoding.specs.Scopes.{Enters, OutsideRecord, no_record, with_outside_record}
use Rattle.per_decoding.specs.State.{State, Spells, settings_of, with_bits}

-- What waits outside while a choice is open: around its level; and around the open type of an alternative that is
-- after the extension marker.
pub record OutsideChoice : Type 0 where
  pub outer : OutsideRecord
  pub contents : Option OutsideAddition

-- X.691 23.5 to 23.8: the extension bit of a choice, and the index of an alternative in the list that it tells
abbrev pub index_in : Settings → Schema → Side × ℕ → Spelling
index_in a (Schema.choice ps qs marker) x = index_form a (length (tags_of ps)) (length (tags_of qs)) marker x
index_in a _ x = never

-- Where an alternative is read, which an index told: at once, or after an extension marker in an open type (X.691
-- 23.7, 23.8).
abbrev pub StandsFrom : Side → State → Option OutsideAddition → State → Type 0
StandsFrom root m None i = i ≡ m
StandsFrom root m (Some w) i = ⊥
StandsFrom added m None i = ⊥
StandsFrom added m (Some w) i = OpensContents m w i

-- After the index of a choice a level is entered, and nothing of a record is read.
pub record OpensChoice (c : Schema) (d : Side) (k : ℕ) (s : State) (w : OutsideChoice) (i : State) : Type 0 where
  pub live : s.failed ≡ false
  pub middle : State
  pub deeper : s.levels ≡ suc middle.levels
  pub took : Took (index_in (settings_of s) c (d, k)) s.bits middle.bits
  pub enters : Enters (no_record middle.levels) (with_bits s middle.bits) w.outer middle
  pub stands : StandsFrom d middle w.contents i

-- After the alternative: at once, or where what is left of its open type ends that (X.691 11.1).
abbrev pub EndsFrom : State → Option OutsideAddition → State → Type 0
EndsFrom j None m = m ≡ j
EndsFrom j (Some w) m = EndsAs (settings_of j) j.bits w.total × (m ≡ with_outside_addition j w)

-- There the level is given back, and what waited outside.
pub record ClosesChoice (j : State) (w : OutsideChoice) (t : State) : Type 0 where
  pub live : j.failed ≡ false
  pub middle : State
  pub ends : EndsFrom j w.contents middle
  pub same : t ≡ with_outside_record middle w.outer

-- What is left of an alternative's open type doesn't end it.
abbrev pub UnendedChoice : Option OutsideAddition → DecodeError → State → Type 0
UnendedChoice None e j = ⊥
UnendedChoice (Some w) e j = UnendedAddition w e j

-- A value is the alternative at a place, which is read between opening and closing a choice.
pub record Stands (a : Schema) (d : Side) (k : ℕ) (i : State) (w : OutsideChoice) (v : Value) (t : State) : Type 0 where
  pub value : Value
  pub is : v ≡ alternative d k value
  pub end : State
  pub reads : Spells a i value end
  pub closes : ClosesChoice end w t
