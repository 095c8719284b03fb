-- Where a refusal of a part is one of the whole.
use Rattle.std.proofs.Common.{◌≡◌, Bool, true, false, List, ◌∷◌, Option, Some, refl, sym, ap, ◌∙◌, subst, inl, inr, ℕ}
use Rattle.rasn_types.specs.Values.{Value}
use Rattle.rasn_schema.specs.Structures.{record_value}
use Rattle.rasn_schema.specs.Schemas.{Order, Presence, required, optional, group, default, Schema, Parts, part}
use Rattle.rasn_traits.specs.Additions.{addition_bit, PresentsAddition, RefusesAddition, refuses_added, refuses_skipped, refuses_inside, refuses_surplus, RefusesAdditions, refuses_addition, refuses_further, presents_added, presents_skipped}
use Rattle.rasn_traits.specs.Presences.{presence_bit}
use Rattle.rasn_traits.specs.Scopes.{PresentsPart, presents_required, presents_there, presents_left_out, PresentsParts, presents_end, presents_next, RefusesPart, refuses_required, refuses_there, refuses_bit, RefusesParts, refuses_here, refuses_after, RefusesFields, refuses_root, refuses_after_root}
use Rattle.rasn_jer.specs.Laws.Relations.{unrefused}
use Rattle.rasn_jer.specs.Frames.{is_full, is_full_of, marked, Frame, JsonState, with_value}
use Rattle.rasn_jer.specs.Rules.{fault_of, IsOutside, IsRefused, IsUnclosed, jer_rules, Marks, Refuses, Skips, Presents}
use Rattle.rasn_jer.specs.Frames.{is_complete}
use Rattle.rasn_jer.specs.Shown.{HasPart, part_here, part_after, StandsIn, in_part, in_addition}
use Rattle.rasn_jer.specs.declared.error.EncodeError.{EncodeError}
use Rattle.rasn_jer.specs.declared.error.EncodeError.TheVariants.{AlreadyFailed, NoJson, OutOfMemory, OutOfTurn, VariantNotInChoice}
use Rattle.rasn_jer.specs.declared.frame.Kind.{Kind}
use Rattle.rasn_jer.specs.declared.frame.Kind.TheVariants as Kinds

-- an encoder inside a record
pub record Inside (x : JsonState) : Type 0 where
  pub unfailed : x.failed ≡ false
  pub members : x.place.kind ≡ Kinds.Members

not_full : (x : JsonState) → Inside x → is_full x.place ≡ false
not_full x h = ap (λ (k : Kind). is_full_of k x.place.is_empty) h.members

pub not_outside : (e : EncodeError) (x : JsonState) → Inside x → IsOutside e x → ⊥
not_outside NoJson x h k = k
not_outside OutOfMemory x h k = k
not_outside OutOfTurn x h k = k h.members
not_outside AlreadyFailed x h k = absurd (let t : true ≡ false = sym k ∙ h.unfailed in cc)
not_outside VariantNotInChoice x h k = k

-- a fault is in the value of a part
abbrev FaultyPart : EncodeError → Parts → List (Option Value) → Type 0
FaultyPart e ps rs = (s : Schema) × (v : Value) × HasPart s v ps rs × StandsIn (fault_of e) s v

pub bit_there : (p : Presence) (v : Value) → presence_bit p (Some v) ≡ Some true → addition_bit p (Some v) ≡ Some true
bit_there required v e = absurd cc
bit_there optional v e = e
bit_there group v e = e
bit_there (default d) v e = e

standing : (e : EncodeError) (x : JsonState) (s : Schema) (v : Value) → Inside x → Refuses e x s v → StandsIn (fault_of e) s v
standing e x s v h k = elim k [ inl q ↦ absurd (unrefused e x h.unfailed (not_full x h) q) | inr q ↦ q ]

-- a place stays one of members
value_kind : (k : Kind) (p : Frame) (text : List ℕ) → (with_value k p text).kind ≡ p.kind
value_kind Kinds.One p text = refl
value_kind Kinds.Items p text = refl
value_kind Kinds.Members p text = refl

marked_kind : (b : Bool) (p : Frame) → (marked b p).kind ≡ p.kind
marked_kind true p = refl
marked_kind false p = refl

pub presents_inside : (x : JsonState) (s : Schema) (v : Value) (y : JsonState) → Inside x → Presents x s v y → Inside y
presents_inside x s v y h w = record { unfailed = w.left; members = ap (λ (q : Frame). q.kind) w.taken.written ∙ value_kind x.place.kind x.place _ ∙ h.members }

marks_inside : (x : JsonState) (b : Bool) (y : JsonState) → Marks x b y → Inside y
marks_inside x b y k = record { unfailed = ap (λ (z : JsonState). z.failed) k.moved; members = ap (λ (z : JsonState). z.place.kind) k.moved ∙ marked_kind b x.place ∙ k.members }

skips_inside : (x y : JsonState) → Skips x y → Inside y
skips_inside x y k = record { unfailed = ap (λ (z : JsonState). z.failed) k.moved; members = ap (λ (z : JsonState). z.place.kind) k.moved ∙ k.members }

pub part_inside : {p : Presence} {s : Schema} {x y : JsonState} {r : Option Value} → Inside x → PresentsPart jer_rules p s x r y → Inside y
part_inside {x = x} {y = y} h (presents_required w) = presents_inside x _ _ y h w
part_inside {x = x} {y = y} h (presents_there {m = m} b k w) = presents_inside m _ _ y (marks_inside x true m k) w
part_inside {x = x} {y = y} h (presents_left_out b k) = marks_inside x false y k

parts_inside : {ps : Parts} {x y : JsonState} {rs : List (Option Value)} → Inside x → PresentsParts jer_rules ps x rs y → Inside y
parts_inside h presents_end = h
parts_inside h (presents_next p q) = parts_inside (part_inside h p) q

pub addition_inside : {p : Presence} {s : Schema} {x y : JsonState} {r : Option Value} → Inside x → PresentsAddition jer_rules p s x r y → Inside y
addition_inside h (presents_added b w) = record {
  unfailed = w.left;
  members = elim w.added [ inl q ↦ ap (λ (p : Frame). p.kind) q ∙ h.members | inr q ↦ ap (λ (p : Frame). p.kind) q.2 ∙ h.members ];
}
addition_inside {x = x} {y = y} h (presents_skipped b k) = skips_inside x y k

refused_part : {e : EncodeError} {p : Presence} {s : Schema} {x : JsonState} {r : Option Value} → Inside x → RefusesPart jer_rules e p s x r
    → (v : Value) × (r ≡ Some v) × (addition_bit p (Some v) ≡ Some true) × StandsIn (fault_of e) s v
refused_part {e = e} {x = x} h (refuses_required {v = v} k) = (v, refl, refl, standing e x _ v h k)
refused_part {e = e} {p = p} {x = x} h (refuses_there {m = m} {v = v} b k q) = (v, refl, bit_there p v b, standing e m _ v (marks_inside x true m k) q)
refused_part {e = e} {x = x} h (refuses_bit b k) = absurd (not_outside e x h k)

refused_parts : {e : EncodeError} {ps : Parts} {x : JsonState} {rs : List (Option Value)} → Inside x → RefusesParts jer_rules e ps x rs → FaultyPart e ps rs
refused_parts {e = e} h (refuses_here {t = t} {p = p} {s = s} {ps = ps} {rs = rs} k) =
    let f = refused_part h k in
    (s, f.0, subst (λ (o : Option Value). HasPart s f.0 (part t p s ps) (o ∷ rs)) (sym f.1) (part_here f.2), f.3)
refused_parts h (refuses_after p k) = let f = refused_parts (part_inside h p) k in (f.0, f.1, part_after f.2, f.3)

refused_addition : {e : EncodeError} {p : Presence} {s : Schema} {x : JsonState} {r : Option Value} → Inside x → RefusesAddition jer_rules e p s x r
    → (v : Value) × (r ≡ Some v) × (addition_bit p (Some v) ≡ Some true) × StandsIn (fault_of e) s v
refused_addition {e = e} {x = x} h (refuses_added {v = v} b (refuses_inside {i = i} k q)) =
    (v, refl, b, elim q [ inl r ↦ absurd (unrefused e i (ap (λ (z : JsonState). z.failed) k.within) (ap (λ (z : JsonState). is_full z.place) k.within) r) | inr r ↦ r ])
refused_addition {e = e} {x = x} h (refuses_added b (refuses_surplus k)) = absurd (not_outside e x h k)
refused_addition {e = e} {x = x} h (refuses_skipped b k) = absurd (not_outside e x h k)

refused_additions : {e : EncodeError} {qs : Parts} {x : JsonState} {xs : List (Option Value)} → Inside x → RefusesAdditions jer_rules e qs x xs → FaultyPart e qs xs
refused_additions {e = e} h (refuses_addition {t = t} {p = p} {s = s} {ps = ps} {rs = rs} k) =
    let f = refused_addition h k in
    (s, f.0, subst (λ (o : Option Value). HasPart s f.0 (part t p s ps) (o ∷ rs)) (sym f.1) (part_here f.2), f.3)
refused_additions h (refuses_further p k) = let f = refused_additions (addition_inside h p) k in (f.0, f.1, part_after f.2, f.3)

-- the refusal of a component is one of the record
pub refused_record : (order : Order) (marker : Bool) {e : EncodeError} {ps qs : Parts} {i : JsonState} {rs xs : List (Option Value)} (x : JsonState) → Inside i
    → RefusesFields jer_rules e ps qs i rs xs → Refuses e x (Schema.sequence order ps marker qs) (record_value rs xs)
refused_record order marker {xs = xs} x h (refuses_root k) = let f = refused_parts h k in inr (in_part xs f.2 f.3)
refused_record order marker {rs = rs} x h (refuses_after_root p k) = let f = refused_additions (parts_inside h p) k in inr (in_addition rs f.2 f.3)

-- what was opened and is whole is closed, unless no value is awaited outside
pub unclosed : (e : EncodeError) (kind : Kind) (o : Frame) (j x : JsonState) → o ≡ x.place → j.failed ≡ false → j.place.kind ≡ kind → is_complete j.place ≡ true
    → IsUnclosed kind (is_full o) j e → IsRefused e x
unclosed NoJson kind o j x w f k c h = h
unclosed OutOfMemory kind o j x w f k c h = h
unclosed OutOfTurn kind o j x w f k c (inl h) = absurd (h k)
unclosed OutOfTurn kind o j x w f k c (inr (inl h)) = absurd (let t : true ≡ false = sym c ∙ h in cc)
unclosed OutOfTurn kind o j x w f k c (inr (inr h)) = ap is_full (sym w) ∙ h
unclosed AlreadyFailed kind o j x w f k c h = absurd (let t : true ≡ false = sym h ∙ f in cc)
unclosed VariantNotInChoice kind o j x w f k c h = h
