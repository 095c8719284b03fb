-- A list that is open to read (ITU-T X.691, 20).
use Rattle.std.specs.Prelude.{◌≡◌, ◌≤◌, ◌-◌, suc, Bool, true, false, List, length, Option, Some, None}
use Rattle.rasn_types.specs.Values.{Value}
use Rattle.rasn_constraints.specs.Bounds.{Size}
use Rattle.rasn_constraints.specs.LawfulConstraints.{is_lawful_size}
use Rattle.rasn_schema.specs.Schemas.{Schema}
use Rattle.per_read.specs.Lists.{AreOpenItems, list_rule}
use Rattle.per_decoding.specs.State.{Source, State, settings_of, with_turn}
use Rattle.per_decoding.specs.Scopes.{OutsideRecord, no_record, outside_record, with_outside_record}
use Rattle.per_decoding.specs.Turns.{in_list, next, uncounted, within_list}
use Rattle.per_core.specs.ItemCounts.{most_items}
use Rattle.per_de.specs.Outsides.{outside_record_of}
use Rattle.per_de.specs.Turns.{turn_of}
use Rattle.per_de.specs.declared.OpenedList.{OpenedList}
use Rattle.per_de.specs.declared.ListScope.{ListScope}
use Rattle.per_de.specs.declared.Scope.{Scope}
use Rattle.per_de.specs.declared.turns.Around.{Around}

-- A list is open, which began at s: some elements were read, and what is left of it is read from i on, one level
-- deeper. The elements are few for the bits that were taken since the list began, where its size is lawful (X.691
-- 11.9).
pub record IsOpenList (e : Schema) (size : Size) (mark : Bool) (s : State) (vs : List Value) (l : ListScope)
    (i : State) : Type 0 where
  pub live : s.failed ≡ false
  pub deeper : s.levels ≡ suc i.levels
  pub outside : l.levels ≡ s.levels
  pub same : i ≡ record s { bits = i.bits; levels = i.levels }
  pub few : is_lawful_size size.least size.most ≡ true → length vs ≤ most_items (length s.bits - length i.bits)
  pub items : AreOpenItems (list_rule (settings_of s) size mark e) s.bits vs l.list i.bits

-- A list is open in which nothing is counted, which is a component of what is around it; what is still to come there
-- waits until it ends.
pub record IsListInTurn (e : Schema) (size : Size) (mark : Bool) (s : State) (vs : List Value) (l : Around OpenedList)
    (i : State) : Type 0 where
  pub list : IsOpenList e size mark (with_turn uncounted s) vs l.scope.list (with_turn uncounted i)
  pub waiting : turn_of l.turn ≡ next s.turn
  pub within : i.turn ≡ within_list (next s.turn)

-- a decoder in which nothing of a record is left to be read
abbrev pub closed_off : State → State
closed_off s = with_outside_record s (no_record s.levels)

-- what waits outside an open list, where something does
abbrev pub outer_of : Source → Option Scope → OutsideRecord
outer_of source None = no_record 0
outer_of source (Some scope) = outside_record_of source scope

-- A list is open in which each value is counted, and nothing of the record around it is read; what is still to come
-- there, and what is left to be read of it, waits until the list ends.
pub record IsCountedList (e : Schema) (size : Size) (mark : Bool) (s : State) (vs : List Value)
    (l : Around OpenedList) (i : State) : Type 0 where
  pub list : IsOpenList e size mark (closed_off (with_turn uncounted s)) vs l.scope.list (with_turn uncounted i)
  pub outer : outer_of i.source l.scope.outer ≡ outside_record s
  pub waiting : turn_of l.turn ≡ next s.turn
  pub within : i.turn ≡ in_list 0
