-- Records, groups and choices, by what is told of their parts.
use Rattle.std.proofs.Common.{◌≡◌, refl, sym, ap, ◌∙◌, ◌⊎◌, inl, inr, ℕ, suc, Bool, true, false, cond, List, [], ◌∷◌, map, length, get_or, arith, Option, Some, None, option_map, Result, Ok, Err}
use Rattle.std.specs.Borrow.{Bor}
use Rattle.rasn_types.specs.Values.{Value}
use Rattle.rasn_schema.specs.Structures.{record_value}
use Rattle.rasn_dynamic.specs.declared.types.Choice.{Choice}
use Rattle.rasn_dynamic.specs.declared.types.ObjectSet.{ObjectSet}
use Rattle.rasn_dynamic.specs.declared.values.Value.{Value as Tree}
use Rattle.rasn_dynamic.specs.Values.{slot_of}
use Rattle.json.specs.Json.{Json, member, no_members}
use Rattle.json.specs.Value.{members_view, value_view}
use Rattle.json.specs.declared.value.Value.{Value as JsonTree}
use Rattle.rasn_dynamic_jer.specs.FromJson.{fields_told, IsUntold, one_row_told, one_told, TellsSlot, TellsValue}
use Rattle.rasn_dynamic_jer.specs.declared.from_json_error.FromJsonError.{FromJsonError}
use Rattle.rasn_dynamic_jer.proofs.Untold.{untold_by}

pub no_root : (b : Bool) (o w : Option (List (Option Value))) → o ≡ None → cond b (fields_told o w) None ≡ None
no_root true o w e = ap (λ z. fields_told z w) e
no_root false o w e = refl

pub no_additions : (b : Bool) (o w : Option (List (Option Value))) → w ≡ None → cond b (fields_told o w) None ≡ None
no_additions true None w e = refl
no_additions true (Some vs) w e = ap (fields_told (Some vs)) e
no_additions false o w e = refl

pub all_fields : (b : Bool) (o w : Option (List (Option Value))) (vs ws : List (Option Value)) → b ≡ true → o ≡ Some vs → w ≡ Some ws → cond b (fields_told o w) None ≡ Some (record_value vs ws)
all_fields b o w vs ws e f g = rw (e, f, g) refl

-- a member that is read as a component
pub value_slot : (o : Option Value) (r : Result Tree FromJsonError) → TellsValue o r → TellsSlot (option_map Some o) r
value_slot o (Ok x) h = h
value_slot o (Err e) h = untold_by o (option_map Some o) e (λ k. ap (option_map Some) k) h

-- a group
pub no_group : (b : Bool) (o : Option (List (Option Value))) → b ≡ false → cond b (option_map (λ ss. Some (record_value ss [])) o) (Some None) ≡ Some None
no_group b o e = rw e refl

pub group_lacks : (b : Bool) (o : Option (List (Option Value))) → b ≡ true → o ≡ None → cond b (option_map (λ ss. Some (record_value ss [])) o) (Some None) ≡ None
group_lacks b o e f = rw (e, f) refl

pub whole_group : (b : Bool) (o : Option (List (Option Value))) (vs : List (Option Value)) → b ≡ true → o ≡ Some vs → cond b (option_map (λ ss. Some (record_value ss [])) o) (Some None) ≡ Some (Some (record_value vs []))
whole_group b o vs e f = rw (e, f) refl

-- an object that hasn't one member
pub not_one : {A : Type 0} (f : ℕ → Json → Option Value) (k : Choice) (ms : List (Bor (List ℕ) × JsonTree A)) → (length ms ≡ 1 → ⊥) → one_told f k (members_view ms) ≡ None
not_one f k [] h = refl
not_one f k (m ∷ []) h = absurd (h refl)
not_one f k (m ∷ n ∷ ms) h = refl

pub not_one_row : {A : Type 0} (f : ℕ → Json → Option Value) (s : ObjectSet) (ms : List (Bor (List ℕ) × JsonTree A)) → (length ms ≡ 1 → ⊥) → one_row_told f s (members_view ms) ≡ None
not_one_row f s [] h = refl
not_one_row f s (m ∷ []) h = absurd (h refl)
not_one_row f s (m ∷ n ∷ ms) h = refl

pub not_members : (b : Bool) (o w : Option (List (Option Value))) → b ≡ false → cond b (fields_told o w) None ≡ None
not_members b o w e = rw e refl

-- an object that has
pub one_member : {A : Type 0} (ms : List (Bor (List ℕ) × JsonTree A)) (m : Bor (List ℕ) × JsonTree A) → length ms ≡ 1 → m ≡ get_or ms 0 m → members_view ms ≡ member m.0.now (value_view m.1) no_members
one_member {A} [] m e q = absurd (omega (arith, e))
one_member {A} (n ∷ []) m e q = ap (λ (k : Bor (List ℕ) × JsonTree A). member k.0.now (value_view k.1) no_members) (sym q)
one_member {A} (n ∷ o ∷ ms) m e q = absurd (omega (arith, e))
