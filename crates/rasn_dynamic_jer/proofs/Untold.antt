-- What JSON tells of parts, and of the whole.
use Rattle.std.proofs.Common.{◌≡◌, ℤ, refl, sym, ap, ◌∙◌, ◌⊎◌, inl, inr, ℕ, zero, suc, ◌≤◌, List, Option, Some, None, option_map, Result, Ok, Err, MatchResult, arith}
use Rattle.std.specs.Option.{option_and_then}
use Rattle.rasn_types.specs.Values.{Value, octets, whole}
use Rattle.rasn_dynamic.specs.declared.types.Kind.{Kind}
use Rattle.rasn_dynamic.specs.declared.values.Value.{Value as Tree}
use Rattle.rasn_dynamic.specs.declared.values.Value.TheFolds.{fold-roll-Value}
use Rattle.rasn_dynamic.specs.declared.values.Value.TheOpen.{Integer, Octets}
use Rattle.rasn_dynamic.specs.declared.values.Value.TheVariants.{rolls-Integer, rolls-Octets}
use Rattle.rasn_dynamic.specs.declared.values.Value.TheVariants
use Rattle.rasn_dynamic.specs.Values.{slot_of, slot_step, value_of}
use Rattle.rasn_dynamic.proofs.Trees.{slot_there, value_there}
use Rattle.json.specs.Json.{Json, max_depth}
use Rattle.rasn_dynamic_jer.specs.FromJson.{IsJson, IsNoText, no_room, untold, IsTextOf, IsUntold, TellsValue, told_alone, told_at, told_by, told_in}
use Rattle.rasn_dynamic_jer.specs.declared.from_json_error.FromJsonError.{FromJsonError}

pub untold_by : {A B : Type 0} (o : Option A) (p : Option B) (e : FromJsonError) → (o ≡ None → p ≡ None) → IsUntold o e → IsUntold p e
untold_by o p e f (inl h) = inl h
untold_by o p e f (inr h) = inr (f h)

-- a value that is there
pub told_value : (o : Option Value) (x : Tree) → option_map Some o ≡ Some (slot_of x) → o ≡ Some (value_of x)
told_value None x h = absurd cc
told_value (Some v) x h = let e : slot_of x ≡ Some v = cc in ap Some (sym (value_there x v e))

pub told_there : (o : Option Value) (x : Tree) → option_map Some o ≡ Some (slot_of x) → slot_of x ≡ Some (value_of x)
told_there None x h = absurd cc
told_there (Some v) x h = let e : slot_of x ≡ Some v = cc in slot_there x v e

-- what no string and no number tells
pub none_of : {A B : Type 0} (f : A → Option B) (o : Option A) → o ≡ None → option_and_then f o ≡ None
none_of f o e = ap (option_and_then f) e

-- levels
pub told_none : (ts : List Kind) (n : ℕ) (j : Json) → told_by ts n None j ≡ None
unfolding told_by
told_none ts zero j = refl
told_none ts (suc n) j = refl

pub told_below : (ts : List Kind) (n m : ℕ) (k : Option Kind) (j : Json) → n ≡ suc m → told_by ts n k j ≡ told_in ts (told_at ts m) k j
unfolding told_by
told_below ts zero m k j e = absurd cc
told_below ts (suc n) m k j e = let h : n ≡ m = cc in ap (λ (l : ℕ). told_in ts (told_at ts l) k j) h

pub told_last : (ts : List Kind) (n : ℕ) (k : Option Kind) (j : Json) → n ≡ 0 → told_by ts n k j ≡ told_alone k j
unfolding told_by
told_last ts zero k j e = refl
told_last ts (suc n) k j e = absurd cc

pub no_level : (n : ℕ) → ¬ (1 ≤ n) → n ≡ 0
no_level zero h = refl
no_level (suc n) h = absurd (h (omega arith))

-- a text that is JSON
pub text_told : (ts : List Kind) (i : ℕ) (text : List ℕ) (json : Json) (r : Result Tree FromJsonError) → IsJson text json → TellsValue (told_at ts max_depth i json) r → MatchResult r (IsTextOf ts i text) (IsNoText ts i text)
text_told ts i text json (Ok x) is h = record {
  json = json;
  is_json = is;
  told = told_value (told_at ts max_depth i json) x h;
  there = told_there (told_at ts max_depth i json) x h;
}
text_told ts i text json (Err e) is (inl h) = no_room h
text_told ts i text json (Err e) is (inr h) = untold json is h

-- what octets stand for
pub octets_slot : (os : List ℕ) → slot_of (TheVariants.Octets os) ≡ Some (octets os)
octets_slot os = ap slot_of (sym (rolls-Octets os)) ∙ fold-roll-Value (Option Value) slot_step (Octets os)

-- what a whole number stands for
pub integer_slot : (z : ℤ) → slot_of (TheVariants.Integer z) ≡ Some (whole z)
integer_slot z = ap slot_of (sym (rolls-Integer z)) ∙ fold-roll-Value (Option Value) slot_step (Integer z)
