-- What contracts see of an encoder: what is open, its text so far, the names that are left, how much is still to come,
-- and whether a call was refused.
use Rattle.std.specs.Prelude.{ℕ, zero, suc, ◌≡◌, Bool, true, false, not, ◌&&◌, List, [], ◌++◌, drop, if◌then◌else◌}
use Rattle.std.specs.Prelude.{length, Option, Some, None}
use Rattle.json.specs.Json.{Members}
use Rattle.rasn_schema.specs.Fields.{Shape}
use Rattle.rasn_jer.specs.Names.{AreNamesOf, next_name}
use Rattle.rasn_jer.specs.Texts.{comma, is_none, member_text, members_text}
use Rattle.rasn_jer.specs.declared.frame.Due.{Due}
use Rattle.rasn_jer.specs.declared.frame.Kind.{Kind}
use Rattle.rasn_jer.specs.declared.frame.Kind.TheVariants as Kinds

-- how many are still to come; none where too many came
abbrev pub Rest : Type 0
Rest = Option ℕ

-- one comes
abbrev pub fewer : Rest → Rest
fewer None = None
fewer (Some zero) = None
fewer (Some (suc n)) = Some n

-- whether as many came as were to come
abbrev pub is_done : Rest → Bool
is_done None = false
is_done (Some zero) = true
is_done (Some (suc n)) = false

-- nothing is still to come of components, of which each comes as a value or as a presence bit 0, presence bits and
-- additions
abbrev pub none_due : Due
none_due = record { components = Some 0; bits = Some 0; additions = Some 0 }

-- so many items are still to come, and nothing else
abbrev pub items_due : ℕ → Due
items_due n = record { components = Some n; bits = Some 0; additions = Some 0 }

-- what is to come where names of root components and of additions are left, and so many presence bits
abbrev pub due_of : List (List ℕ) → ℕ → List (List ℕ) → Due
due_of root bits added = record { components = Some (length root); bits = Some bits; additions = Some (length added) }

-- whether all came that were to come
abbrev pub are_done : Due → Bool
are_done d = is_done d.components && (is_done d.bits && is_done d.additions)

-- where values are written: one value, the items of an array, or the members of an object; whether none was written
-- yet, and the text of those that were; the names that are left, for root components and for additions; and what is
-- still to come
pub record Frame : Type 0 where
  pub kind : Kind
  pub is_empty : Bool
  pub text : List ℕ
  pub root : List (List ℕ)
  pub added : List (List ℕ)
  pub due : Due

-- an encoder: what is open, and whether a call was refused
pub record JsonState : Type 0 where
  pub place : Frame
  pub failed : Bool

-- where nothing was written yet, these names are left, and this is to come
abbrev pub named_frame : Kind → List (List ℕ) → List (List ℕ) → Due → Frame
named_frame kind root added due =
    record { kind = kind; is_empty = true; text = []; root = root; added = added; due = due }

-- where no member was written yet, the names that are left are those of such fields, in their order, and these are to
-- come, of which so many have a presence bit
pub record IsNamedBy (root added : List Shape) (bits : ℕ) (p : Frame) : Type 0 where
  pub of_root : AreNamesOf root p.root
  pub of_added : AreNamesOf added p.added
  pub is_vacant : p ≡ named_frame Kinds.Members p.root p.added (due_of p.root bits p.added)

-- where nothing was written yet, and no name is left
abbrev pub vacant_frame : Kind → Frame
vacant_frame kind = named_frame kind [] [] none_due

-- an encoder inside what was just opened, and at the start
abbrev pub inside : Kind → JsonState
inside kind = record { place = vacant_frame kind; failed = false }

-- an unfailed encoder at a place
abbrev pub unfailed_at : Frame → JsonState
unfailed_at p = record { place = p; failed = false }

-- whether a place of a kind takes no more, where something was written
abbrev pub is_full_of : Kind → Bool → Bool
is_full_of Kinds.One is_empty = not is_empty
is_full_of Kinds.Items is_empty = false
is_full_of Kinds.Members is_empty = false

-- whether no value is awaited: the one value was written
abbrev pub is_full : Frame → Bool
is_full p = is_full_of p.kind p.is_empty

-- whether what a place of a kind holds is whole
abbrev pub is_complete_of : Kind → Bool → Due → Bool
is_complete_of Kinds.One is_empty due = not is_empty
is_complete_of Kinds.Items is_empty due = are_done due
is_complete_of Kinds.Members is_empty due = are_done due

-- whether what a place holds is whole: one value, or the items or members that were to come
abbrev pub is_complete : Frame → Bool
is_complete p = is_complete_of p.kind p.is_empty p.due

-- a further text, after a comma unless it is the first
abbrev pub behind : Frame → List ℕ → Frame
behind p text = record p { is_empty = false; text = p.text ++ (comma p.is_empty ++ text) }

-- further members
abbrev pub after_all : Frame → Members → Frame
after_all p ms = record p { is_empty = p.is_empty && is_none ms; text = p.text ++ members_text p.is_empty ms }

-- a root component comes: its name isn't left any more
abbrev pub past_root : Frame → Frame
past_root p = record p { root = drop 1 p.root; due = record p.due { components = fewer p.due.components } }

-- an item comes
abbrev pub past_item : Frame → Frame
past_item p = record p { due = record p.due { components = fewer p.due.components } }

-- an item is to come
abbrev pub awaiting_item : Frame → Frame
awaiting_item p = record p { due = record p.due { components = Some 1 } }

-- an addition comes: its name isn't left any more
abbrev pub past_added : Frame → Frame
past_added p = record p { added = drop 1 p.added; due = record p.due { additions = fewer p.due.additions } }

-- a presence bit comes
abbrev pub past_bit : Frame → Frame
past_bit p = record p { due = record p.due { bits = fewer p.due.bits } }

-- a presence bit says that a root component is there, whose name is still left; or that it is left out, and so is its
-- name
abbrev pub marked : Bool → Frame → Frame
marked is_there p = if is_there then past_bit p else past_root (past_bit p)

-- a value's text in a place of a kind: among members after the next root component's name
abbrev pub with_value : Kind → Frame → List ℕ → Frame
with_value Kinds.One p text = behind p text
with_value Kinds.Items p text = behind (past_item p) text
with_value Kinds.Members p text = behind (past_root p) (member_text (next_name p.root) text)

-- the text of an addition's value, after the next addition's name
abbrev pub with_addition : Frame → List ℕ → Frame
with_addition p text = behind (past_added p) (member_text (next_name p.added) text)

-- the members of an addition that is a group, which leave its name out
abbrev pub with_group : Frame → Members → Frame
with_group p ms = after_all (past_added p) ms

-- a value's text is written where one is awaited
pub record Takes (p : Frame) (text : List ℕ) (q : Frame) : Type 0 where
  pub awaited : is_full p ≡ false
  pub written : q ≡ with_value p.kind p text
