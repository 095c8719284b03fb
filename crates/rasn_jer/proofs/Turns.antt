-- What came in a place, and what closing it says of that.
use Rattle.std.specs.Prelude.{IsErrAnd, Result, Ok, Err}
use Rattle.std.proofs.Common.{◌≡◌, refl, sym, ap, ap₂, ◌∙◌, ◌⊎◌, ◌&&◌, subst, inl, inr, ℕ, zero, suc, Bool, true, false, List, length, Option, Some, None}
use Rattle.rasn_types.specs.Values.{Value}
use Rattle.rasn_schema.specs.Schemas.{count, Order, Parts, Schema}
use Rattle.rasn_traits.specs.Lists.{Mistimed}
use Rattle.rasn_traits.specs.Scopes.{PresentsFields}
use Rattle.rasn_traits.specs.Amounts.{Amount, amount_of, no_amount, one_value, only_values}
use Rattle.rasn_traits.specs.Turns.{Came, came_added, came_bit, came_nothing, came_skipped, came_value, RefusesOther}
use Rattle.rasn_traits.proofs.Turns.{fields_came, same_amount}
use Rattle.rasn_jer.proofs.Refusing.{Inside}
use Rattle.rasn_jer.specs.Frames.{are_done, behind, fewer, inside, is_complete, is_complete_of, is_done, is_full, is_full_of, past_added, past_bit, past_item, past_root, Frame, Rest, JsonState, unfailed_at, with_value}
use Rattle.rasn_jer.specs.Rules.{AwaitsValues, Closed, IsUnclosed, jer_rules, OpensRecord}
use Rattle.rasn_jer.specs.Texts.{text_of}
use Rattle.rasn_jer.specs.declared.error.EncodeError.{EncodeError}
use Rattle.rasn_jer.specs.declared.error.EncodeError.TheVariants.{AlreadyFailed, NoJson, OutOfMemory, OutOfTurn, VariantNotInChoice}
use Rattle.rasn_jer.specs.declared.frame.Due.{Due}
use Rattle.rasn_jer.specs.declared.frame.Kind.{Kind}
use Rattle.rasn_jer.specs.declared.frame.Kind.TheVariants as Kinds

-- so many came
abbrev pub past : ℕ → Rest → Rest
past zero l = l
past (suc n) l = past n (fewer l)

past_none : (k : ℕ) → past k None ≡ None
past_none zero = refl
past_none (suc k) = past_none k

past_all : (n : ℕ) → past n (Some n) ≡ Some 0
past_all zero = refl
past_all (suc n) = past_all n

as_many : (k n : ℕ) → is_done (past k (Some n)) ≡ true → k ≡ n
as_many zero zero e = refl
as_many zero (suc n) e = absurd cc
as_many (suc k) zero e = absurd (let d : false ≡ true = sym (ap is_done (past_none k)) ∙ e in cc)
as_many (suc k) (suc n) e = ap suc (as_many k n e)

-- what is still to come, where an amount came
abbrev pub due_past : Amount → Due → Due
due_past a d = record { components = past a.components d.components; bits = past a.bits d.bits; additions = past a.additions d.additions }

-- among members so much came
pub record CameTo (a : Amount) (i j : JsonState) : Type 0 where
  pub within : Inside j
  pub due : j.place.due ≡ due_past a i.place.due

value_due : (k : Kind) (p : Frame) (text : List ℕ) → k ≡ Kinds.Members → (with_value k p text).due ≡ record p.due { components = fewer p.due.components }
value_due Kinds.Members p text e = refl
value_due Kinds.One p text e = absurd cc
value_due Kinds.Items p text e = absurd cc

value_kind : (k : Kind) (p : Frame) (text : List ℕ) → (with_value k p text).kind ≡ p.kind
value_kind Kinds.One p text = refl
value_kind Kinds.Items p text = refl
value_kind Kinds.Members p text = refl

pub came_to : (a : Amount) (i j : JsonState) → Inside i → Came jer_rules a i j → CameTo a i j
came_to a i j h came_nothing = record { within = h; due = refl }
came_to a i j h (came_value {a = b} {m = m} w c) =
    let kind = ap (λ (q : Frame). q.kind) w.taken.written ∙ value_kind i.place.kind i.place _ ∙ h.members in
    let d = came_to b m j (record { unfailed = w.left; members = kind }) c in
    record { within = d.within; due = d.due ∙ ap (due_past b) (ap (λ (q : Frame). q.due) w.taken.written ∙ value_due i.place.kind i.place _ h.members) }
came_to a i j h (came_bit {a = b} {b = true} {m = m} w c) =
    let d = came_to b m j (record { unfailed = ap (λ (z : JsonState). z.failed) w.moved; members = ap (λ (z : JsonState). z.place.kind) w.moved ∙ h.members }) c in
    record { within = d.within; due = d.due ∙ ap (λ (z : JsonState). due_past b z.place.due) w.moved }
came_to a i j h (came_bit {a = b} {b = false} {m = m} w c) =
    let d = came_to b m j (record { unfailed = ap (λ (z : JsonState). z.failed) w.moved; members = ap (λ (z : JsonState). z.place.kind) w.moved ∙ h.members }) c in
    record { within = d.within; due = d.due ∙ ap (λ (z : JsonState). due_past b z.place.due) w.moved }
came_to a i j h (came_skipped {a = b} {m = m} w c) =
    let d = came_to b m j (record { unfailed = ap (λ (z : JsonState). z.failed) w.moved; members = ap (λ (z : JsonState). z.place.kind) w.moved ∙ h.members }) c in
    record { within = d.within; due = d.due ∙ ap (λ (z : JsonState). due_past b z.place.due) w.moved }
came_to a i j h (came_added {a = b} {m = m} w c) =
    let kind : m.place.kind ≡ i.place.kind = elim w.added [ inl n ↦ ap (λ (q : Frame). q.kind) n | inr n ↦ ap (λ (q : Frame). q.kind) n.2 ] in
    let due : due_past b m.place.due ≡ due_past b (past_added i.place).due = elim w.added [ inl n ↦ ap (λ (q : Frame). due_past b q.due) n | inr n ↦ ap (λ (q : Frame). due_past b q.due) n.2 ] in
    let d = came_to b m j (record { unfailed = w.left; members = kind ∙ h.members }) c in
    record { within = d.within; due = d.due ∙ due }

-- a record in which this amount came that it takes is whole
opened_inside : (s : Schema) (x i : JsonState) (o : Frame) → OpensRecord s x o i → Inside i
opened_inside s x i o h = record { unfailed = ap (λ (z : JsonState). z.failed) h.within; members = ap (λ (z : JsonState). z.place.kind) h.within }

pub all_done : (order : Order) (ps : Parts) (marker : Bool) (qs : Parts) (x i j : JsonState) (rs xs : List (Option Value)) (o : Frame) → OpensRecord (Schema.sequence order ps marker qs) x o i → PresentsFields jer_rules ps qs i rs xs j
    → are_done j.place.due ≡ true
all_done order ps marker qs x i j rs xs o h k =
    let d = came_to (amount_of ps qs) i j (opened_inside _ x i o h) (fields_came jer_rules ps qs i j rs xs k) in
    let due : j.place.due ≡ due_past (amount_of ps qs) (record { components = Some (length h.root); bits = Some h.bits; additions = Some (length h.added) }) =
    d.due ∙ ap (λ (z : JsonState). due_past (amount_of ps qs) z.place.due) h.within in
    ap are_done due ∙ done _ _ _ _ _ _ h.counted.0 h.counted.2 h.counted.1
  where
    done : (a b c l m n : ℕ) → l ≡ a → m ≡ b → n ≡ c → (is_done (past a (Some l)) && (is_done (past b (Some m)) && is_done (past c (Some n)))) ≡ true
    done a b c l m n e f g =
        let one : (k n : ℕ) → n ≡ k → is_done (past k (Some n)) ≡ true = λ k n e. ap (λ (q : ℕ). is_done (past k (Some q))) e ∙ ap is_done (past_all k) in
        ap (λ (t : Bool). t && (is_done (past b (Some m)) && is_done (past c (Some n)))) (one a l e) ∙ ap (λ (t : Bool). t && is_done (past c (Some n))) (one b m f) ∙ one c n g

both : (b c : Bool) → (b && c) ≡ true → (b ≡ true) × (c ≡ true)
both true c h = (refl, h)
both false c h = absurd cc

-- what is out of turn is so whether or not memory would have sufficed
pub mistimed : (r : Result (Unit {0}) EncodeError) (j : JsonState) → IsErrAnd r (λ e. e ≡ OutOfTurn) → IsErrAnd r (Mistimed jer_rules j)
mistimed (Ok u) j h = h
mistimed (Err e) j h = inr h

-- a call that closes a record in which another amount came refuses it
pub record_untimely : (order : Order) (ps : Parts) (marker : Bool) (qs : Parts) (x i j : JsonState) (o : Frame) (r : Result (Unit {0}) EncodeError)
    → OpensRecord (Schema.sequence order ps marker qs) x o i → (is_complete j.place ≡ false → j.failed ≡ false → IsErrAnd r (λ e. e ≡ OutOfTurn)) → RefusesOther jer_rules (amount_of ps qs) i j r
record_untimely order ps marker qs x i j o r h f = λ a k d.
    let w = came_to a i j (opened_inside _ x i o h) k in
    let due : j.place.due ≡ due_past a (record { components = Some (length h.root); bits = Some h.bits; additions = Some (length h.added) }) =
    w.due ∙ ap (λ (z : JsonState). due_past a z.place.due) h.within in
    mistimed r j (f (is_false (is_complete j.place) (λ t.
    let e : (is_done (past a.components (Some (length h.root))) && (is_done (past a.bits (Some h.bits)) && is_done (past a.additions (Some (length h.added))))) ≡ true =
    sym (ap are_done due) ∙ sym (complete_members j.place w.within.members) ∙ t in
    let b = both _ _ e in
    let g = both _ _ b.1 in
    d (same_amount a (amount_of ps qs) (as_many a.components (length h.root) b.0 ∙ h.counted.0) (as_many a.bits h.bits g.0 ∙ h.counted.2) (as_many a.additions (length h.added) g.1 ∙ h.counted.1)))) w.within.unfailed)
  where
    is_false : (b : Bool) → (b ≡ true → ⊥) → b ≡ false
    is_false true n = absurd (n refl)
    is_false false n = refl

    complete_members : (p : Frame) → p.kind ≡ Kinds.Members → is_complete p ≡ are_done p.due
    complete_members p e = ap (λ (k : Kind). is_complete_of k p.is_empty p.due) e

-- what came in an array: items alone
record ItemsCame (a : Amount) (i j : JsonState) : Type 0 where
  items : j.place.kind ≡ Kinds.Items
  unfailed : j.failed ≡ false
  components : j.place.due.components ≡ past a.components i.place.due.components
  bits : a.bits ≡ 0
  additions : a.additions ≡ 0

items_came : (a : Amount) (i j : JsonState) → i.place.kind ≡ Kinds.Items → i.failed ≡ false → Came jer_rules a i j → ItemsCame a i j
items_came a i j e f came_nothing = record { items = e; unfailed = f; components = refl; bits = refl; additions = refl }
items_came a i j e f (came_value {a = b} {m = m} w c) =
    let now : m.place ≡ behind (past_item i.place) (text_of w.json) = subst (λ (k : Kind). m.place ≡ with_value k i.place (text_of w.json)) e w.taken.written in
    let d = items_came b m j (ap (λ (q : Frame). q.kind) now ∙ e) w.left c in
    record { items = d.items; unfailed = d.unfailed; components = d.components ∙ ap (λ (q : Frame). past b.components q.due.components) now; bits = d.bits; additions = d.additions }
items_came a i j e f (came_bit w c) = absurd (let g : Kinds.Items ≡ Kinds.Members = sym e ∙ w.members in cc)
items_came a i j e f (came_skipped w c) = absurd (let g : Kinds.Items ≡ Kinds.Members = sym e ∙ w.members in cc)
items_came a i j e f (came_added w c) = absurd (let g : Kinds.Items ≡ Kinds.Members = sym e ∙ w.members in cc)

-- a call of an array in which anything else came than the items that were awaited is refused
pub values_untimely : (n : ℕ) (i j : JsonState) (r : Result (Unit {0}) EncodeError) → AwaitsValues n i → (is_complete j.place ≡ false → j.failed ≡ false → IsErrAnd r (λ e. e ≡ OutOfTurn)) → RefusesOther jer_rules (only_values n) i j r
values_untimely n i j r w f = λ a k d.
    let c = items_came a i j w.items w.unfailed k in
    let components : j.place.due.components ≡ past a.components (Some n) = c.components ∙ ap (λ (q : Due). past a.components q.components) w.due in
    mistimed r j (f (is_false (is_complete j.place) (λ t.
    let e : are_done j.place.due ≡ true = sym (ap (λ (k : Kind). is_complete_of k j.place.is_empty j.place.due) c.items) ∙ t in
    let b = both (is_done j.place.due.components) _ e in
    d (same_amount a (only_values n) (as_many a.components n (ap is_done (sym components) ∙ b.0)) c.bits c.additions))) c.unfailed)
  where
    is_false : (b : Bool) → (b ≡ true → ⊥) → b ≡ false
    is_false true n = absurd (n refl)
    is_false false n = refl

-- in a full place nothing more comes
full_came : (a : Amount) (i j : JsonState) → i.place.kind ≡ Kinds.One → is_full i.place ≡ true → Came jer_rules a i j → a ≡ no_amount
full_came a i j e f came_nothing = refl
full_came a i j e f (came_value w c) = absurd (let g = w.taken.awaited in cc)
full_came a i j e f (came_bit w c) = absurd (let g = w.members in cc)
full_came a i j e f (came_skipped w c) = absurd (let g = w.members in cc)
full_came a i j e f (came_added w c) = absurd (let g = w.members in cc)

one_more : (a b : Amount) → b ≡ no_amount → a ≡ record { components = suc b.components; bits = b.bits; additions = b.additions } → a ≡ one_value
one_more a b e f = f ∙ ap (λ (z : Amount). record { components = suc z.components; bits = z.bits; additions = z.additions }) e

-- where one value is awaited one comes, or nothing
one_came : (a : Amount) (i j : JsonState) → i ≡ inside Kinds.One → Came jer_rules a i j → (a ≡ one_value) ⊎ (j ≡ i)
one_came a i j e came_nothing = inr refl
one_came a i j e (came_value {a = b} {m = m} w c) =
    let q : m.place ≡ with_value Kinds.One i.place (text_of w.json) = w.taken.written ∙ ap (λ (k : Kind). with_value k i.place (text_of w.json)) (ap (λ (z : JsonState). z.place.kind) e) in
    inl (one_more a b (full_came b m j (ap (λ (z : Frame). z.kind) q ∙ ap (λ (z : JsonState). z.place.kind) e) (ap is_full q ∙ ap (λ (z : JsonState). is_full_of z.place.kind false) e) c) refl)
one_came a i j e (came_bit w c) = absurd (let f = sym (ap (λ (z : JsonState). z.place.kind) e) ∙ w.members in cc)
one_came a i j e (came_skipped w c) = absurd (let f = sym (ap (λ (z : JsonState). z.place.kind) e) ∙ w.members in cc)
one_came a i j e (came_added w c) = absurd (let f = sym (ap (λ (z : JsonState). z.place.kind) e) ∙ w.members in cc)

-- where no value came, closing is refused
pub one_untimely : (i j : JsonState) (r : Result (Unit {0}) EncodeError) → i ≡ inside Kinds.One → (is_complete j.place ≡ false → j.failed ≡ false → IsErrAnd r (λ e. e ≡ OutOfTurn)) → RefusesOther jer_rules one_value i j r
one_untimely i j r e f = λ a k d. elim (one_came a i j e k) [
  | inl n ↦ absurd (d n)
  | inr n ↦ mistimed r j (f (ap (λ (z : JsonState). is_complete z.place) (n ∙ e)) (ap (λ (z : JsonState). z.failed) (n ∙ e)))
]
