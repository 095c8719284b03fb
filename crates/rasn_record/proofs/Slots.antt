-- One component in front of those after it.
use Rattle.std.proofs.Common.{◌≡◌, arith, refl, inl, inr, ℕ, max, true, false, Result, Ok, Err, List, ◌∷◌, Option, Some, None}
use Rattle.rasn_types.specs.Values.{Value}
use Rattle.rasn_schema.specs.Schemas.{TagTree, Presence, required, optional, group, default, Schema, Parts, part}
use Rattle.rasn_schema.specs.Normal.{normal, normals, settle, AtDepths}
use Rattle.rasn_schema.specs.Records.{AtParts}
use Rattle.rasn_traits.specs.Calls.{EncoderRules, Written, PresentsWell, DecoderRules, Answers}
use Rattle.rasn_traits.specs.Scopes.{PresentsPart, presents_required, presents_there, presents_left_out, presents_next, refuses_here, refuses_after, refuses_required, WrittenPart, WrittenParts, FaultyPart, faulty_required, ReadsPart, reads_required, reads_there, reads_left_out}
use Rattle.rasn_record.specs.Slots.{IsComponent, normal_slot}

module _ {E X : Type 0} (rules : EncoderRules E X) where
  -- want of memory after a component is want of memory of the whole
  part_room : PresentsWell rules → {p : Presence} {s : Schema} {x y : X} {r : Option Value} (e : E) → PresentsPart rules p s x r y → rules.memory e y → rules.memory e x
  part_room L {x = x} {y = y} e (presents_required {s = s} {v = v} h) m = L.room x s v y e h m
  part_room L {x = x} {y = y} e (presents_there {s = s} {m = n} {v = v} i k h) m = L.mark_room x true n e k (L.room n s v y e h m)
  part_room L {x = x} {y = y} e (presents_left_out i k) m = L.mark_room x false y e k m

  -- a component that is presented, and what comes of those after it
  part_written : PresentsWell rules → (t : TagTree) (p : Presence) (s : Schema) (ps : Parts) (x m : X) (r : Option Value) (rs : List (Option Value)) → PresentsPart rules p s x r m
      → (result : Result (Unit {0}) E) (y : X) → WrittenParts rules ps rs m result y → WrittenParts rules (part t p s ps) (r ∷ rs) x result y
  part_written L t p s ps x m r rs a (Ok u) y w = presents_next a w
  part_written L t p s ps x m r rs a (Err e) y (inl h) = inl (part_room L e a h)
  part_written L t p s ps x m r rs a (Err e) y (inr h) = inr (refuses_after a h)

  -- a component that is refused
  part_refused : (t : TagTree) (p : Presence) (s : Schema) (ps : Parts) (x y : X) (r : Option Value) (rs : List (Option Value)) (e : E)
      → WrittenPart rules p s r x (Err e) y → WrittenParts rules (part t p s ps) (r ∷ rs) x (Err e) y
  part_refused t p s ps x y r rs e (inl m) = inl m
  part_refused t p s ps x y r rs e (inr h) = inr (refuses_here h)

-- the normal form of the first component
part_normal : (t : TagTree) (p : Presence) (s : Schema) (ps : Parts) (r : Option Value) (rs : List (Option Value)) → IsComponent p → normals (part t p s ps) (r ∷ rs) ≡ normal_slot s r ∷ normals ps rs
unfolding normal settle
part_normal t required s ps None rs h = refl
part_normal t required s ps (Some v) rs h = refl
part_normal t optional s ps None rs h = refl
part_normal t optional s ps (Some v) rs h = refl
part_normal t group s ps r rs h = absurd h
part_normal t (default d) s ps None rs h = refl
part_normal t (default d) s ps (Some v) rs h = refl

-- a component that is presented, and what is written after it, by their normal forms at each depth
pub next_written : {E X : Type 0} {rules : EncoderRules E X} → PresentsWell rules → (t : TagTree) (p : Presence) (schema : ℕ → Schema) (parts : ℕ → Parts) (k j : ℕ) (x m : X) (r : Option Value) (rs : List (Option Value)) → IsComponent p
    → AtDepths schema k (λ s. PresentsPart rules p s x (normal_slot s r) m) → (result : Result (Unit {0}) E) (y : X) → AtParts parts j (λ ps. WrittenParts rules ps (normals ps rs) m result y)
    → AtParts (λ n. part t p (schema n) (parts n)) (max k j) (λ ps. WrittenParts rules ps (normals ps (r ∷ rs)) x result y)
next_written {rules = rules} L t p schema parts k j x m r rs h a result y w = record {
  at = λ n le. rw (part_normal t p (schema n) (parts n) r rs h)
      (part_written rules L t p (schema n) (parts n) x m (normal_slot (schema n) r) (normals (parts n) rs) (a.at n (omega (arith, le))) result y (w.at n (omega (arith, le))));
}

-- one that is refused
pub next_refused : {E X : Type 0} {rules : EncoderRules E X} → (t : TagTree) (p : Presence) (schema : ℕ → Schema) (parts : ℕ → Parts) (k j : ℕ) (x y : X) (r : Option Value) (rs : List (Option Value)) (e : E) → IsComponent p
    → AtDepths schema k (λ s. WrittenPart rules p s (normal_slot s r) x (Err e) y)
    → AtParts (λ n. part t p (schema n) (parts n)) (max k j) (λ ps. WrittenParts rules ps (normals ps (r ∷ rs)) x (Err e) y)
next_refused {rules = rules} t p schema parts k j x y r rs e h a = record {
  at = λ n le. rw (part_normal t p (schema n) (parts n) r rs h) (part_refused rules t p (schema n) (parts n) x y (normal_slot (schema n) r) (normals (parts n) rs) e (a.at n (omega (arith, le))));
}

-- a required component is written as its value
pub value_written : {E X : Type 0} (rules : EncoderRules E X) (s : Schema) (v : Value) (x : X) (result : Result (Unit {0}) E) (y : X) → Written rules s v x result y → WrittenPart rules required s (Some v) x result y
value_written rules s v x (Ok u) y h = presents_required h
value_written rules s v x (Err e) y (inl m) = inl m
value_written rules s v x (Err e) y (inr h) = inr (refuses_required h)

-- and read as it
required_of : {E S : Type 0} {rules : DecoderRules E S} {c : Schema} {s t : S} {r : Option Value} → ReadsPart rules required c s r t → (v : Value) × rules.spells c s v t
required_of (reads_required {v = v} h) = (v, h)
required_of (reads_there e m h) = absurd cc
required_of (reads_left_out e m) = absurd cc

pub value_taken : {E S T : Type 0} (rules : DecoderRules E S) (c : Schema) (value : T → Value) (s : S) (result : Result T E) (t : S) → Answers rules.memory (rules.fault c) (rules.spells c) value s result t
    → Answers rules.memory (λ e. FaultyPart rules e required c) (ReadsPart rules required c) (λ x. Some (value x)) s result t
value_taken rules c value s (Ok x) t h = reads_required h
value_taken rules c value s (Err e) t (inl m) = inl m
value_taken rules c value s (Err e) t (inr r) = inr (record { nothing = λ w u a. let q = required_of a in r.nothing q.0 u q.1; stands = faulty_required r.stands })
