-- What is known of a value, by its outermost level.
use Rattle.std.proofs.Common.{◌≡◌, refl, sym, ap, ap₂, ◌∙◌, subst, ℕ, zero, suc, List, [], ◌∷◌, map, Option, Some, None}
use Rattle.rasn_types.specs.Values
use Rattle.rasn_dynamic.specs.declared.types.Kind.{Kind}
use Rattle.rasn_dynamic.specs.declared.types.Kind.TheVariants.{Simple as SimpleKind, Date as DateKind, List as ListKind, SetOf, Record as RecordKind, Choice as ChoiceKind, Containing, Open as OpenKind}
use Rattle.rasn_dynamic.specs.declared.types.Record.{Record}
use Rattle.rasn_dynamic.specs.declared.types.Simple.{Simple}
use Rattle.rasn_dynamic.specs.declared.values.Value.{Value}
use Rattle.rasn_dynamic.specs.declared.values.Value.TheOpen.{Value-F, Absent, Boolean, Null, Integer, Item, Octets, Bits, Characters, Date, Elements, Bag, Fields, Alternative}
use Rattle.rasn_dynamic.specs.declared.values.Value.TheViews
use Rattle.rasn_dynamic.specs.declared.values.Value.TheViews.{roll-Value}
use Rattle.rasn_dynamic.specs.declared.values.Value.TheVariants
use Rattle.rasn_dynamic.specs.declared.values.Value.TheFolds.{fold-roll-Value, map-Value, ind-Value}
use Rattle.rasn_dynamic.specs.Types.{standing}
use Rattle.rasn_types.specs.Values.{alternative, bag_of}
use Rattle.rasn_schema.specs.Structures.{list_value, record_value}
use Rattle.rasn_traits.specs.Counted.{index_in, side_of}
use Rattle.rasn_dynamic.specs.Values.{slot_of, slot_step, there}
use Rattle.std.proofs.Common.{Result}
use Rattle.std.specs.Prelude.{option_map}
use Rattle.json.specs.Json.{Json, object}
use Rattle.json.specs.Written.{Written}
use Rattle.rasn_dynamic_jer.specs.Puts.{Puts}
use Rattle.rasn_dynamic_jer.specs.declared.error.ToJsonError.{ToJsonError}
use Rattle.rasn_dynamic_jer.specs.Days.{date_json}
use Rattle.rasn_dynamic_jer.specs.Leaves.{below, digits_json, simple_json}
use Rattle.rasn_dynamic_jer.specs.Shown.{alternative_json, array_json, fields_members, json_by, kind_json, Known, known, known_step, Member, members_from, record_members}

pub roll_known : (ts : List Kind) (x : Value-F Value) → known ts (roll-Value x) ≡ known_step ts (map-Value Value Known (known ts) x)
roll_known ts x = fold-roll-Value Known (known_step ts) x

roll_slot : (x : Value-F Value) → slot_of (roll-Value x) ≡ slot_step (map-Value Value (Option Values.Value) slot_of x)
roll_slot x = fold-roll-Value (Option Values.Value) slot_step x

-- the value that is known is the one that is there
abbrev KnowsSlot : List Kind → Value → Type 0
KnowsSlot ts v = (known ts v).slot ≡ slot_of v

abbrev Knower : List Kind → Type 0
Knower ts = (v : Value) × KnowsSlot ts v

slots_same : (ts : List Kind) (es : List (Knower ts)) → map (λ k. k.slot) (map (known ts) (map (λ e. e.0) es)) ≡ map slot_of (map (λ e. e.0) es)
slots_same ts [] = refl
slots_same ts (e ∷ es) = ap₂ (λ a b. a ∷ b) e.1 (slots_same ts es)

knows_step : (ts : List Kind) (y : Value-F (Knower ts))
    → slot_step (map-Value Known (Option Values.Value) (λ k. k.slot) (map-Value Value Known (known ts) (map-Value (Knower ts) Value (λ e. e.0) y)))
    ≡ slot_step (map-Value Value (Option Values.Value) slot_of (map-Value (Knower ts) Value (λ e. e.0) y))
knows_step ts (Elements v) = ap (λ vs. Some (list_value (map there vs))) (slots_same ts v.items)
knows_step ts (Bag v) = ap (λ vs. Some (bag_of (map there vs))) (slots_same ts v.items)
knows_step ts (Fields v w) = ap₂ (λ vs ws. Some (record_value vs ws)) (slots_same ts v.items) (slots_same ts w.items)
knows_step ts (Alternative p v) = ap (λ x. Some (alternative (side_of p) (index_in p) (there x))) v.value.1
knows_step ts y = refl

knows_roll : (ts : List Kind) (y : Value-F (Knower ts)) (x : Value-F Value) → map-Value (Knower ts) Value (λ e. e.0) y ≡ x → KnowsSlot ts (roll-Value x)
knows_roll ts y x is = ap (λ k. k.slot) (roll_known ts x)
    ∙ subst (λ z. slot_step (map-Value Known (Option Values.Value) (λ k. k.slot) (map-Value Value Known (known ts) z)) ≡ slot_step (map-Value Value (Option Values.Value) slot_of z)) is (knows_step ts y)
    ∙ sym (roll_slot x)

pub knows_slot : (ts : List Kind) (v : Value) → KnowsSlot ts v
knows_slot ts = ind-Value (KnowsSlot ts) (λ x y is. knows_roll ts y x is)

pub roll_json : (ts : List Kind) (n : ℕ) (k : Option Kind) (x : Value-F Value) → json_by ts n k (roll-Value x) ≡ kind_json ts n k (map-Value Value Known (known ts) x)
roll_json ts n k x = ap (λ y. y.json n k) (roll_known ts x)

-- a value of a variant
pub elements_json : (ts : List Kind) (n i : ℕ) (c : _) (v : Value) (x : _) → v ≡ roll-Value (Elements x)
    → json_by ts n (Some (ListKind i c)) v ≡ below n (λ m. array_json ts m i (map (known ts) x.items))
elements_json ts n i c v x e = ap (json_by ts n (Some (ListKind i c))) e ∙ roll_json ts n _ (Elements x)

pub bag_json : (ts : List Kind) (n i : ℕ) (c : _) (v : Value) (x : _) → v ≡ roll-Value (Bag x)
    → json_by ts n (Some (SetOf i c)) v ≡ below n (λ m. array_json ts m i (map (known ts) x.items))
bag_json ts n i c v x e = ap (json_by ts n (Some (SetOf i c))) e ∙ roll_json ts n _ (Bag x)

pub alternative_value : (ts : List Kind) (n : ℕ) (c : _) (v : Value) (p x : _) → v ≡ roll-Value (Alternative p x)
    → json_by ts n (Some (ChoiceKind c)) v ≡ below n (λ m. alternative_json ts m (standing c p) (known ts x.value))
alternative_value ts n c v p x e = ap (json_by ts n (Some (ChoiceKind c))) e ∙ roll_json ts n _ (Alternative p x)

pub fields_members_of : (ts : List Kind) (n : ℕ) (r : Record) (v : Value) (x y : _) → v ≡ roll-Value (Fields x y)
    → (known ts v).members n r ≡ record_members ts n r (map (known ts) x.items) (map (known ts) y.items)
fields_members_of ts n r v x y e = ap (λ v. (known ts v).members n r) e ∙ ap (λ k. k.members n r) (roll_known ts (Fields x y))

-- a value in which no other is
pub simple_put : (ts : List Kind) (n : ℕ) (k : Simple) (v : Value) (x : Value-F Value) {old new : Written} (r : Result (Unit {0}) ToJsonError) → v ≡ roll-Value x
    → Puts (simple_json n k (map-Value Value Known (known ts) x)) n old r new → Puts (json_by ts n (Some (SimpleKind k)) v) n old r new
simple_put ts n k v x {old} {new} r e h = subst (λ o. Puts o n old r new) (sym (ap (json_by ts n (Some (SimpleKind k))) e ∙ roll_json ts n _ x)) h

-- a day
pub date_put : (ts : List Kind) (n : ℕ) (v : Value) (d : _) {old new : Written} (r : Result (Unit {0}) ToJsonError) → v ≡ roll-Value (Date d)
    → Puts (date_json d) n old r new → Puts (json_by ts n (Some DateKind) v) n old r new
date_put ts n v d {old} {new} r e h = subst (λ o. Puts o n old r new) (sym (ap (json_by ts n (Some DateKind)) e ∙ roll_json ts n _ (Date d))) h

-- the octets of an open type
pub open_put : (ts : List Kind) (n : ℕ) (s : _) (v : Value) (os : _) {old new : Written} (r : Result (Unit {0}) ToJsonError) → v ≡ roll-Value (Octets os)
    → Puts (digits_json os) n old r new → Puts (json_by ts n (Some (OpenKind s)) v) n old r new
open_put ts n s v os {old} {new} r e h = subst (λ o. Puts o n old r new) (sym (ap (json_by ts n (Some (OpenKind s))) e ∙ roll_json ts n _ (Octets os))) h

below_none : (n : ℕ) → below {A = Json} n (λ m. None) ≡ None
below_none zero = refl
below_none (suc n) = refl

abbrev pub object_of : Option (List Member) → Option Json
object_of o = option_map (λ ms. object (members_from ms)) o

record_step : (ts : List Kind) (n : ℕ) (r : Record) (x : Value-F Known) → kind_json ts n (Some (RecordKind r)) x ≡ below n (λ m. object_of (fields_members ts m r x))
record_step ts n r (Fields v w) = refl
record_step ts n r x = sym (below_none n)

record_roll : (ts : List Kind) (n : ℕ) (r : Record) (x : Value-F Value) → json_by ts n (Some (RecordKind r)) (roll-Value x) ≡ below n (λ m. object_of ((known ts (roll-Value x)).members m r))
record_roll ts n r x =
    roll_json ts n _ x ∙ record_step ts n r (map-Value Value Known (known ts) x)
    ∙ ap (λ k. below n (λ m. object_of (k.members m r))) (sym (roll_known ts x))

pub fields_json : (ts : List Kind) (n : ℕ) (r : Record) (v : Value) → json_by ts n (Some (RecordKind r)) v ≡ below n (λ m. object_of ((known ts v).members m r))
fields_json ts n r = ind-Value (λ v. json_by ts n (Some (RecordKind r)) v ≡ below n (λ m. object_of ((known ts v).members m r))) (λ x y is. record_roll ts n r x)
