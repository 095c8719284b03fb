-- Paths from the JSON of a value to a part of it that is refused.
use Rattle.std.specs.Prelude.{◌≡◌, ◌⊎◌, Bool, true, false, not, ◌&&◌, ℕ, zero, suc, ◌+◌, if◌then◌else◌, ◌==◌, List, []}
use Rattle.std.specs.Prelude.{◌∷◌, ◌++◌, length, Option, Some, None, is_some, option_map, decimal, string_bytes, ⊤}
use Rattle.std.specs.Option.{MatchOption, option_and_then, option_or}
use Rattle.std.specs.Prelude.{IfSome}
use Rattle.std.specs.Str.{bytes_eq}
use Rattle.rasn_dynamic.specs.Types.{behind, row_at, standing}
use Rattle.rasn_dynamic.specs.declared.types.Component.{Component}
use Rattle.rasn_dynamic.specs.declared.types.Kind.{Kind}
use Rattle.rasn_dynamic.specs.declared.types.Kind.TheVariants.{List as ListKind, SetOf, Record as RecordKind}
use Rattle.rasn_dynamic.specs.declared.types.Kind.TheVariants.{Choice as ChoiceKind, Open as OpenKind}
use Rattle.rasn_dynamic.specs.declared.types.Presence.{Presence}
use Rattle.rasn_dynamic.specs.declared.types.Presence.TheVariants.{Required}
use Rattle.rasn_dynamic.specs.declared.types.Record.{Record}
use Rattle.json.specs.Find.{as_array, as_object, get_item}
use Rattle.json.specs.Json.{Items, Json, Members, no_members, member, max_depth}
use Rattle.rasn_dynamic_jer.specs.Shown.{group_in, kind_within}
use Rattle.rasn_dynamic_jer.specs.FromJson.{alternative_place, IsJson, IsNoJson, member_count, own_member, row_place}
use Rattle.rasn_dynamic_jer.specs.FromJson.{told_at}
use Rattle.rasn_dynamic_jer.specs.declared.from_json_error.FromJsonError.TheVariants.{OutOfMemory}
use Rattle.per_messages.specs.declared.located.Fault.{Fault}

-- X.680 15: the path of a part, by that of the whole and the part's name or number
abbrev pub onward : List ℕ → List ℕ → List ℕ
onward p s = if length p == 0 then s else p ++ 46 ∷ s

-- the place of the type of the first of some components that has a name
abbrev pub component_type : List Component → List ℕ → Option ℕ
component_type [] s = None
component_type (c ∷ cs) s = if bytes_eq (string_bytes c.name) s then Some c.of else component_type cs s

-- the same of an addition: of a group, of its components
abbrev pub addition_type : Option Record → Component → List ℕ → Option ℕ
addition_type None c s = component_type (c ∷ []) s
addition_type (Some g) c s = component_type g.root.items s

-- and of additions
abbrev pub added_type : List Kind → List Component → List ℕ → Option ℕ
added_type ts [] s = None
added_type ts (c ∷ cs) s = option_or (addition_type (group_in ts c) c s) (added_type ts cs s)

-- the place of the type that the member of an object with a name is read by: that of a component, of an alternative, or
-- of what an open type may be
abbrev pub member_type : List Kind → Kind → List ℕ → Option ℕ
member_type ts (RecordKind r) s = option_or (component_type r.root.items s) (added_type ts (behind r.additions) s)
member_type ts (ChoiceKind c) s = option_map (λ a. a.of) (option_and_then (standing c) (alternative_place c s))
member_type ts (OpenKind o) s = option_map (λ r. r.of) (option_and_then (row_at o) (row_place o s))
member_type ts k s = None

-- that of the items of an array
abbrev pub element_type : Kind → Option ℕ
element_type (ListKind i c) = Some i
element_type (SetOf i c) = Some i
element_type k = None

-- a member of an object
abbrev pub member_at : ℕ → Members → Option (List ℕ × Json)
member_at i no_members = None
member_at zero (member s j ms) = Some (s, j)
member_at (suc i) (member s j ms) = member_at i ms

-- whether a component has to be there
abbrev pub is_required : Presence → Bool
is_required Required = true
is_required p = false

-- the first of some components that has to be there and lacks
abbrev pub is_missing : Json → Component → Bool
is_missing j c = is_required c.presence && not (is_some (own_member j c))

abbrev pub missing_in : Json → List Component → Option Component
missing_in j [] = None
missing_in j (c ∷ cs) = if is_missing j c then Some c else missing_in j cs

-- the same of a type: just a record has such
abbrev pub lacking : Json → Kind → Option Component
lacking j (RecordKind r) = missing_in j r.root.items
lacking j k = None

-- the members of an object that are read by the types of their names: all of a record's, and the only one of a CHOICE's
-- and an open type's
abbrev pub only_member : Json → Option Members
only_member j = if member_count (as_object j) == 1 then as_object j else None

abbrev pub members_read : Kind → Json → Option Members
members_read (RecordKind r) j = as_object j
members_read (ChoiceKind c) j = only_member j
members_read (OpenKind o) j = only_member j
members_read k j = None

-- each item tells a value
abbrev pub ItemsAreTold : List Kind → ℕ → ℕ → Items → Type 0
ItemsAreTold ts n i js = (m : ℕ) (e : Json) → get_item m js ≡ Some e → is_some (told_at ts n i e) ≡ true

-- each member has a name of the type's, and tells a value
abbrev pub MembersAreTold : List Kind → ℕ → Kind → Members → Type 0
MembersAreTold ts n k ms = (m : ℕ) (s : List ℕ) (e : Json) → member_at m ms ≡ Some (s, e)
    → is_some (option_and_then (λ i. told_at ts n i e) (member_type ts k s)) ≡ true

-- no part of JSON of a type is refused: each item tells a value, and each member that is read does, and none lacks
pub record HasNoRefused (ts : List Kind) (n : ℕ) (k : Kind) (j : Json) : Type 0 where
  pub items : (i : ℕ) → element_type k ≡ Some i → IfSome (as_array j) (ItemsAreTold ts n i)
  pub members : IfSome (members_read k j) (MembersAreTold ts n k)
  pub complete : IfSome (members_read k j) (λ ms. lacking j k ≡ None)

-- a path may end at JSON of a type, within so many levels of arrays and objects: no part of it is refused, or none may
-- be in it
abbrev pub IsLast : List Kind → ℕ → Option Kind → Json → Type 0
IsLast ts zero k j = ⊤
IsLast ts (suc n) None j = ⊤
IsLast ts (suc n) (Some k) j = HasNoRefused ts n k j

-- From JSON of a type, within so many levels of arrays and objects, and a path to it, each time to a part that tells no
-- value of its type: the path of the last of these, in which no part is refused. The name of a member that its object
-- can't have may come behind, or that of one that it lacks.
pub data Leads (ts : List Kind) : ℕ → Option Kind → Json → List ℕ → List ℕ → Type 0 where
  here : {n : ℕ} {k : Option Kind} {j : Json} {p : List ℕ} → IsLast ts n k j → Leads ts n k j p p
  to_element : {n : ℕ} {k : Kind} {j : Json} {p q : List ℕ} (i m : ℕ) (e : Json) → element_type k ≡ Some i
      → option_and_then (get_item m) (as_array j) ≡ Some e → told_at ts n i e ≡ None
      → Leads ts n (kind_within ts i) e (onward p (decimal (m + 1))) q → Leads ts (suc n) (Some k) j p q
  to_member : {n : ℕ} {k : Kind} {j : Json} {p q : List ℕ} (i m : ℕ) (s : List ℕ) (e : Json)
      → option_and_then (member_at m) (as_object j) ≡ Some (s, e) → member_type ts k s ≡ Some i
      → told_at ts n i e ≡ None → Leads ts n (kind_within ts i) e (onward p s) q → Leads ts (suc n) (Some k) j p q
  to_other : {n : ℕ} {k : Kind} {j : Json} {p : List ℕ} (m : ℕ) (s : List ℕ) (e : Json)
      → option_and_then (member_at m) (as_object j) ≡ Some (s, e) → member_type ts k s ≡ None
      → Leads ts (suc n) (Some k) j p (onward p s)
  to_missing : {n : ℕ} {r : Record} {j : Json} {p : List ℕ} (c : Component) → missing_in j r.root.items ≡ Some c
      → Leads ts (suc n) (Some (RecordKind r)) j p (onward p (string_bytes c.name))

-- a member is not read: its name is none of the type's, or it tells no value
abbrev pub IsRefused : List Kind → ℕ → Option ℕ → Json → Type 0
IsRefused ts n o e = MatchOption o ⊤ (λ i. told_at ts n i e ≡ None)

-- an item that tells no value, by its number from 1 on
pub record IsRefusedItem (ts : List Kind) (n i : ℕ) (js : Items) (number : ℕ) (e : Json) : Type 0 where
  pub index : ℕ
  pub numbered : number ≡ index + 1
  pub there : get_item index js ≡ Some e
  pub untold : told_at ts n i e ≡ None

-- a member of an object that is not read
pub record IsRefusedMember (ts : List Kind) (n : ℕ) (k : Kind) (j : Json) (s : List ℕ) (e : Json) : Type 0 where
  pub index : ℕ
  pub there : option_and_then (member_at index) (as_object j) ≡ Some (s, e)
  pub refused : IsRefused ts n (member_type ts k s) e

-- the path of a member, or of a part of it
abbrev pub LeadsOn : List Kind → ℕ → Option ℕ → Json → List ℕ → List ℕ → Type 0
LeadsOn ts n o e p q = MatchOption o (q ≡ p) (λ i. Leads ts n (kind_within ts i) e p q)

-- memory ran out, or the path of a fault leads to a part
abbrev pub IsPlaced : List Kind → ℕ → Json → Fault → Type 0
IsPlaced ts i j f = (f.error ≡ OutOfMemory) ⊎ Leads ts max_depth (kind_within ts i) j [] (string_bytes f.path)

-- a text is no JSON, or the path of a fault leads to a part of it
pub data IsFaultOf (ts : List Kind) (i : ℕ) (text : List ℕ) (f : Fault) : Type 0 where
  in_text : IsNoJson text f.error → IsFaultOf ts i text f
  in_part : (json : Json) → IsJson text json → IsPlaced ts i json f → IsFaultOf ts i text f
