-- Tests of parts of a record, by those of what they hold.
use Rattle.std.proofs.Common.{◌≡◌, refl, sym, ap, ◌∙◌, ℕ, zero, suc, max, ◌≤◌, Bool, true, false, not, ◌&&◌, List, [], ◌∷◌, Option, Some, None, arith}
use Rattle.std.specs.Option.{is_some}
use Rattle.rasn_types.specs.Values.{Value, same}
use Rattle.rasn_schema.specs.Components.{TypeLists, sequence_at}
use Rattle.rasn_schema.specs.Normal.{normal, normals}
use Rattle.rasn_schema.specs.Schemas.{Schema, Parts, no_parts, part, Presence}
use Rattle.rasn_traits.specs.Presences.{slot_of}
use Rattle.rasn_record.specs.Slots.{slot_levels}
use Rattle.rasn_constructed.specs.Parts.{Form, plain, grouped, bare, form_of, forms_of, is_filled, are_filled, normal_part, same_slot, same_slots, TellsPart, TellsParts}
use Rattle.rasn_constructed.proofs.Forms.{plain_part, group_part}

-- a component that is there
pub told_there : (schema : ℕ → Schema) (k : ℕ) (v d : Value) (b : Bool) → ((n : ℕ) → k ≤ n → b ≡ same (normal (schema n) v) d)
    → TellsPart (λ n. plain (bare (schema n))) k (Some v) (Some d) b
told_there schema k v d b h = record { at = λ f n le p s e. h n le ∙ ap (λ r. same_slot r (Some d)) (sym (plain_part p s (schema n) (Some v) e)) }

-- one that is to be absent
pub told_absent : {T : Type 0} (schema : ℕ → Schema) (levels : T → ℕ) (value : T → Value) (x : Option T) (b : Bool) → is_some x ≡ not b
    → TellsPart (λ n. plain (bare (schema n))) (slot_levels levels x) (slot_of value x) None b
told_absent schema levels value None true h = record { at = λ f n le p s e. refl }
told_absent schema levels value None false h = absurd (cc)
told_absent schema levels value (Some x) true h = absurd (cc)
told_absent schema levels value (Some x) false h =
    record { at = λ f n le p s e. ap (λ r. same_slot r None) (sym (plain_part p s (schema n) (Some (value x)) e)) }

-- an addition group that is there
group_there : (cs : TypeLists) (k : ℕ) (v d : Value) (b : Bool) → ((n : ℕ) → suc k ≤ n → b ≡ same (normal (sequence_at cs n) v) d)
    → ((n : ℕ) → is_filled (grouped (sequence_at cs (suc n))) ≡ true) → (n : ℕ) → suc k ≤ n → (p : Presence) (s : Schema)
    → form_of p s ≡ grouped (sequence_at cs n) → b ≡ same_slot (normal_part p s (Some v)) (Some d)
group_there cs k v d b h f zero le p s e = absurd (omega arith)
group_there cs k v d b h f (suc n) le p s e = h (suc n) le
    ∙ ap (λ r. same_slot r (Some d)) (sym (group_part p s (sequence_at cs (suc n)) v e (f n)))

pub told_group : (cs : TypeLists) (k : ℕ) (v d : Value) (b : Bool) → ((n : ℕ) → suc k ≤ n → b ≡ same (normal (sequence_at cs n) v) d)
    → TellsPart (λ n. grouped (sequence_at cs n)) (suc k) (Some v) (Some d) b
told_group cs k v d b h = record { at = group_there cs k v d b h }

-- one that is to be absent
group_not_absent : (cs : TypeLists) (k : ℕ) (v : Value) → ((n : ℕ) → is_filled (grouped (sequence_at cs (suc n))) ≡ true)
    → (n : ℕ) → suc k ≤ n → (p : Presence) (s : Schema) → form_of p s ≡ grouped (sequence_at cs n)
    → false ≡ same_slot (normal_part p s (Some v)) None
group_not_absent cs k v f zero le p s e = absurd (omega arith)
group_not_absent cs k v f (suc n) le p s e = ap (λ r. same_slot r None) (sym (group_part p s (sequence_at cs (suc n)) v e (f n)))

pub told_absent_group : {T : Type 0} (cs : TypeLists) (depth : T → ℕ) (value : T → Value) (x : Option T) (b : Bool) → is_some x ≡ not b
    → TellsPart (λ n. grouped (sequence_at cs n)) (slot_levels (λ y. suc (depth y)) x) (slot_of value x) None b
told_absent_group cs depth value None true h = record { at = λ f n le p s e. refl }
told_absent_group cs depth value None false h = absurd (cc)
told_absent_group cs depth value (Some x) true h = absurd (cc)
told_absent_group cs depth value (Some x) false h = record { at = group_not_absent cs (depth x) (value x) }

-- a part before others
normals_first : (t : Rattle.rasn_schema.specs.Schemas.TagTree) (p : Presence) (s : Schema) (ps : Parts) (r : Option Value) (rs : List (Option Value))
    → normals (part t p s ps) (r ∷ rs) ≡ normal_part p s r ∷ normals ps rs
unfolding normal
normals_first t p s ps None rs = refl
normals_first t p s ps (Some v) rs = refl

left_true : (a b : Bool) → (a && b) ≡ true → a ≡ true
left_true true b e = refl
left_true false b e = absurd (cc)

right_true : (a b : Bool) → (a && b) ≡ true → b ≡ true
right_true true b e = e
right_true false b e = absurd (cc)

-- two tests, the first of which is TRUE, and two, the first of which is FALSE
pub both_told : (a b c d : Bool) → a ≡ c → a ≡ true → b ≡ d → b ≡ (c && d)
both_told true b true d e t f = f
both_told true b false d e t f = absurd (cc)
both_told false b c d e t f = absurd (cc)

pub one_false : (a c d : Bool) → a ≡ c → a ≡ false → false ≡ (c && d)
one_false false false d e t = refl
one_false false true d e t = absurd (cc)
one_false true c d e t = absurd (cc)

first_at : (form : ℕ → Form) (forms : ℕ → List Form) (k l : ℕ) (r d : Option Value) (rs ds : List (Option Value)) (a b : Bool)
    → TellsPart form k r d a → a ≡ true → TellsParts forms l rs ds b → ((n : ℕ) → are_filled (form (suc n) ∷ forms (suc n)) ≡ true)
    → (n : ℕ) → max k l ≤ n → (ps : Parts) → forms_of ps ≡ form n ∷ forms n → b ≡ same_slots (normals ps (r ∷ rs)) (d ∷ ds)
first_at form forms k l r d rs ds a b h t g f n le no_parts e = absurd (cc)
first_at form forms k l r d rs ds a b h t g f n le (part u p s ps) e =
    let e1 : form_of p s ≡ form n = cc in
    let e2 : forms_of ps ≡ forms n = cc in
    rw (normals_first u p s ps r rs) (both_told a b _ _ (h.at (λ m. left_true _ _ (f m)) n (omega arith) p s e1) t
    (g.at (λ m. right_true (is_filled (form (suc m))) _ (f m)) n (omega arith) ps e2))

pub told_first : (form : ℕ → Form) (forms : ℕ → List Form) (k l : ℕ) (r d : Option Value) (rs ds : List (Option Value)) (a b : Bool)
    → TellsPart form k r d a → a ≡ true → TellsParts forms l rs ds b
    → TellsParts (λ n. form n ∷ forms n) (max k l) (r ∷ rs) (d ∷ ds) b
told_first form forms k l r d rs ds a b h t g = record { at = first_at form forms k l r d rs ds a b h t g }

another_at : (form : ℕ → Form) (forms : ℕ → List Form) (k l : ℕ) (r d : Option Value) (rs ds : List (Option Value)) (a : Bool)
    → TellsPart form k r d a → a ≡ false → ((n : ℕ) → are_filled (form (suc n) ∷ forms (suc n)) ≡ true)
    → (n : ℕ) → max k l ≤ n → (ps : Parts) → forms_of ps ≡ form n ∷ forms n → a ≡ same_slots (normals ps (r ∷ rs)) (d ∷ ds)
another_at form forms k l r d rs ds a h t f n le no_parts e = absurd (cc)
another_at form forms k l r d rs ds a h t f n le (part u p s ps) e =
    let e1 : form_of p s ≡ form n = cc in
    rw (normals_first u p s ps r rs) (t ∙ one_false a _ _ (h.at (λ m. left_true _ (are_filled (forms (suc m))) (f m)) n (omega arith) p s e1) t)

pub told_another : (form : ℕ → Form) (forms : ℕ → List Form) (k l : ℕ) (r d : Option Value) (rs ds : List (Option Value)) (a : Bool)
    → TellsPart form k r d a → a ≡ false → TellsParts (λ n. form n ∷ forms n) (max k l) (r ∷ rs) (d ∷ ds) a
told_another form forms k l r d rs ds a h t = record { at = another_at form forms k l r d rs ds a h t }

-- no parts
none_at : (n : ℕ) (ps : Parts) → forms_of ps ≡ [] → true ≡ same_slots (normals ps []) []
unfolding normal
none_at n no_parts e = refl
none_at n (part t p s ps) e = absurd (cc)

pub told_none : TellsParts (λ n. []) 0 [] [] true
told_none = record { at = λ f n le ps e. none_at n ps e }
