-- Lists and bags, whose elements and members are items of an array.
use Rattle.std.proofs.Common.{◌≡◌, Bool, true, false, List, [], ◌∷◌, ◌++◌, Option, Some, Result, Ok, Err, refl, sym, ap, ◌∙◌, subst, append_assoc, append-nil, inl, inr, ℕ, suc, length, ◌⊎◌, arith}
use Rattle.std.specs.Prelude.{IfOk, IsErrAnd}
use Rattle.std.proofs.lemmas.Result.{err_from_is_err_and}
use Rattle.rasn_types.specs.Values.{Value, bag_of}
use Rattle.rasn_constraints.specs.Bounds.{Size}
use Rattle.rasn_schema.specs.Structures.{list_value}
use Rattle.rasn_traits.specs.Bags.{AwaitsMember, BagOpened, bag_schema}
use Rattle.rasn_traits.specs.Calls.{Written}
use Rattle.rasn_traits.specs.Lists.{AwaitsElement, ListForm, ListOpened, Mistimed, schema_of}
use Rattle.rasn_traits.specs.ListsInTurn.{WritesMemberInTurn, WritesNextInTurn}
use Rattle.json.specs.Json.{array, no_items, item}
use Rattle.rasn_jer.proofs.Turns.{values_untimely}
use Rattle.rasn_jer.proofs.Writing.{already, closed}
use Rattle.rasn_jer.specs.Laws.Relations.{unrefused}
use Rattle.rasn_jer.specs.Frames.{are_done, awaiting_item, behind, inside, is_complete, is_complete_of, is_full_of, past_item, Frame, JsonState, unfailed_at, vacant_frame, with_value}
use Rattle.rasn_jer.specs.Rules.{AwaitsValues, Closed, ClosesItems, CountsItem, EntersFrame, fault_of, IsOpenList, jer_rules, Presents, Refuses}
use Rattle.rasn_jer.specs.Shown.{element_here, element_after, HasElement, in_element, in_member, shows_bag, shows_end, shows_list, shows_next, StandsIn}
use Rattle.rasn_jer.specs.Texts.{comma, enclosed, items_text, text_of}
use Rattle.rasn_jer.specs.declared.error.EncodeError.{EncodeError}
use Rattle.rasn_jer.specs.declared.error.EncodeError.TheVariants.{AlreadyFailed, OutOfTurn}
use Rattle.rasn_jer.specs.declared.frame.Due.{Due}
use Rattle.rasn_jer.specs.declared.frame.Kind.{Kind}
use Rattle.rasn_jer.specs.declared.frame.Kind.TheVariants as Kinds

assoc3 : (a b c d : List ℕ) → a ++ (b ++ (c ++ d)) ≡ (a ++ (b ++ c)) ++ d
assoc3 a b c d = ap (λ (l : List ℕ). a ++ l) (sym (append_assoc b c d)) ∙ sym (append_assoc a (b ++ c) d)

-- what was just opened
opened : (f : ListForm) (x : JsonState) (p o : Frame) (n : ℕ) (y : JsonState) → n ≡ length f.all → x.failed ≡ false → o ≡ x.place → y ≡ unfailed_at p
    → p ≡ vacant_frame Kinds.Items → IsOpenList f x f.all (o, n) y
opened f x p o n y l b w e q =
    let within : y ≡ inside Kinds.Items = e ∙ ap unfailed_at q in
    record {
      begun = b;
      outer = w;
      counted = l;
      left = ap (λ (z : JsonState). z.failed) within;
      items = ap (λ (z : JsonState). z.place.kind) within;
      due = ap (λ (z : JsonState). z.place.due) within;
      whole = λ js h. (js, h, ap (λ (z : JsonState). z.place.text ++ items_text z.place.is_empty js) (sym within));
      member = λ v h. h;
    }

pub opened_awaits : {E : Type 0} (place : Result Frame E) (x : JsonState) (o : Frame) (y : JsonState) → EntersFrame place x (Ok o) y → IfOk place (λ p. p ≡ vacant_frame Kinds.Items) → AwaitsValues 0 y
opened_awaits (Ok p) x o y w h =
    let within : y ≡ inside Kinds.Items = w.entered.2 ∙ ap unfailed_at h in
    record { unfailed = ap (λ (z : JsonState). z.failed) within; items = ap (λ (z : JsonState). z.place.kind) within; due = ap (λ (z : JsonState). z.place.due) within }
opened_awaits (Err n) x o y w h = absurd w.entered

pub list_opened : {E : Type 0} (size : Size) (mark : Bool) (count : ℕ) (place : Result Frame E) (x : JsonState) (o : Frame) (y : JsonState)
    → EntersFrame place x (Ok o) y → IfOk place (λ p. p ≡ vacant_frame Kinds.Items) → ListOpened jer_rules IsOpenList size mark count x (Ok (o, count)) y
list_opened size mark count (Ok p) x o y w h = λ e vs c. opened (record { element = e; size = size; mark = mark; all = vs }) x p o count y (sym c) w.entered.0 w.entered.1 w.entered.2 h
list_opened size mark count (Err n) x o y w h = absurd w.entered

pub list_unopened : {E : Type 0} (size : Size) (mark : Bool) (count : ℕ) (place : Result Frame E) (x : JsonState) (d : EncodeError) (y : JsonState)
    → EntersFrame place x (Err d) y → ListOpened jer_rules IsOpenList size mark count x (Err d) y
list_unopened size mark count (Ok p) x d y w = elim w.entered [ inl m ↦ inl m | inr q ↦ inr (λ e vs c. inl (already d x q.0 q.1)) ]
list_unopened size mark count (Err n) x d y w = elim w.entered [ inl m ↦ inl m | inr q ↦ inr (λ e vs c. inl (already d x q.0 q.1)) ]

pub bag_opened : {E : Type 0} (size : Size) (mark : Bool) (count : ℕ) (place : Result Frame E) (x : JsonState) (o : Frame) (y : JsonState)
    → EntersFrame place x (Ok o) y → IfOk place (λ p. p ≡ vacant_frame Kinds.Items) → BagOpened jer_rules IsOpenList size mark count x (Ok (o, count)) y
bag_opened size mark count (Ok p) x o y w h = λ e vs c. opened (record { element = e; size = size; mark = mark; all = vs }) x p o count y (sym c) w.entered.0 w.entered.1 w.entered.2 h
bag_opened size mark count (Err n) x o y w h = absurd w.entered

pub bag_unopened : {E : Type 0} (size : Size) (mark : Bool) (count : ℕ) (place : Result Frame E) (x : JsonState) (d : EncodeError) (y : JsonState)
    → EntersFrame place x (Err d) y → BagOpened jer_rules IsOpenList size mark count x (Err d) y
bag_unopened size mark count (Ok p) x d y w = elim w.entered [ inl m ↦ inl m | inr q ↦ inr (λ e vs c. inl (already d x q.0 q.1)) ]
bag_unopened size mark count (Err n) x d y w = elim w.entered [ inl m ↦ inl m | inr q ↦ inr (λ e vs c. inl (already d x q.0 q.1)) ]

-- the call before an item awaits it
abbrev gone_on : JsonState → JsonState
gone_on y = record y { place = awaiting_item y.place }

-- one element more
one_more : (f : ListForm) (x : JsonState) (v : Value) (vs : List Value) (o : Frame) (n m : ℕ) (y z : JsonState) → IsOpenList f x (v ∷ vs) (o, n) y → n ≡ suc m → Presents (gone_on y) f.element v z → IsOpenList f x vs (o, m) z
one_more f x v vs o n m y z h k w =
    let now : z.place ≡ behind (past_item (awaiting_item y.place)) (text_of w.json) = subst (λ (k : Kind). z.place ≡ with_value k (awaiting_item y.place) (text_of w.json)) h.items w.taken.written in
    record {
      begun = h.begun;
      outer = h.outer;
      counted = (let c = h.counted in omega (arith, c, k));
      left = w.left;
      items = ap (λ (p : Frame). p.kind) now ∙ h.items;
      due = ap (λ (p : Frame). p.due) now ∙ ap (λ (d : Due). record { components = Some 0; bits = d.bits; additions = d.additions }) h.due;
      whole = λ js k. (let all = h.whole (item w.json js) (shows_next w.shows k) in
          (all.0, all.1, all.2 ∙ assoc3 y.place.text (comma y.place.is_empty) (text_of w.json) (items_text false js) ∙ ap (λ (p : Frame). p.text ++ items_text p.is_empty js) (sym now)));
      member = λ u k. h.member u (element_after k);
    }

-- a fault of an element is one of the whole
standing : (d : EncodeError) (f : ListForm) (x : JsonState) (v : Value) (vs : List Value) (o : Frame × ℕ) (y : JsonState) → IsOpenList f x (v ∷ vs) o y
    → Refuses d (gone_on y) f.element v → HasElement v f.all × StandsIn (fault_of d) f.element v
standing d f x v vs o y h k = (
  h.member v element_here,
  elim k [
    | inl q ↦ absurd (unrefused d (gone_on y) h.left (ap (λ (i : Kind). is_full_of i y.place.is_empty) h.items) q)
    | inr q ↦ q
  ],
)

element_awaited : (f : ListForm) (x : JsonState) (v : Value) (vs : List Value) (o : Frame) (n m : ℕ) (y : JsonState) → IsOpenList f x (v ∷ vs) (o, n) y → n ≡ suc m → AwaitsElement jer_rules IsOpenList f x v vs (o, m) (gone_on y)
element_awaited f x v vs o n m y h k = record {
  presented = λ z w. one_more f x v vs o n m y z h k w;
  refused = λ d q. (let s = standing d f x v vs (o, n) y h q in inr (in_element s.0 s.1));
  room = λ d r. r;
}

member_awaited : (f : ListForm) (x : JsonState) (v : Value) (vs : List Value) (o : Frame) (n m : ℕ) (y : JsonState) → IsOpenList f x (v ∷ vs) (o, n) y → n ≡ suc m → AwaitsMember jer_rules IsOpenList f x v vs (o, m) (gone_on y)
member_awaited f x v vs o n m y h k = record {
  presented = λ z w. one_more f x v vs o n m y z h k w;
  refused = λ d q. (let s = standing d f x v vs (o, n) y h q in inr (in_member s.0 s.1));
  room = λ d r. r;
}

pub list_closed : (f : ListForm) (x : JsonState) (o : Frame × ℕ) (y : JsonState) (r : Result (Unit {0}) EncodeError) (z : JsonState) → Closed Kinds.Items 91 93 o.0 y r z
    → IsOpenList f x [] o y → Written jer_rules (schema_of f) (list_value f.all) x r z
list_closed f x o y r z q h =
    let all = h.whole no_items shows_end in
    closed Kinds.Items 91 93 o.0 x y _ _ (array all.0) r z (ap are_done h.due) h.begun h.outer h.left h.items (shows_list all.1) (ap (λ (l : List ℕ). enclosed 91 l 93) (sym (all.2 ∙ append-nil y.place.text))) q

pub bag_closed : (f : ListForm) (x : JsonState) (o : Frame × ℕ) (y : JsonState) (r : Result (Unit {0}) EncodeError) (z : JsonState) → Closed Kinds.Items 91 93 o.0 y r z
    → IsOpenList f x [] o y → Written jer_rules (bag_schema f) (bag_of f.all) x r z
bag_closed f x o y r z q h =
    let all = h.whole no_items shows_end in
    closed Kinds.Items 91 93 o.0 x y _ _ (array all.0) r z (ap are_done h.due) h.begun h.outer h.left h.items (shows_bag all.1) (ap (λ (l : List ℕ). enclosed 91 l 93) (sym (all.2 ∙ append-nil y.place.text))) q

-- between items a place is whole
whole_between : (f : ListForm) (x : JsonState) (vs : List Value) (o : Frame × ℕ) (y : JsonState) → IsOpenList f x vs o y → is_complete y.place ≡ true
whole_between f x vs o y h = ap (λ (k : Kind). is_complete_of k y.place.is_empty y.place.due) h.items ∙ ap are_done h.due

-- while elements are left, none is refused out of turn
unbegun : (f : ListForm) (x : JsonState) (v : Value) (vs : List Value) (o : Frame) (n : ℕ) (y : JsonState) (e : EncodeError) → IsOpenList f x (v ∷ vs) (o, n) y
    → ((e ≡ AlreadyFailed) × (y.failed ≡ true)) ⊎ ((e ≡ OutOfTurn) × ((n ≡ 0) ⊎ (is_complete y.place ≡ false))) → ⊥
unbegun f x v vs o n y e h (inl a) = (let t : true ≡ false = sym a.1 ∙ h.left in cc)
unbegun f x v vs o n y e h (inr a) = elim a.1 [
  | inl k ↦ (let c = h.counted in omega (arith, c, k))
  | inr k ↦ (let t : true ≡ false = sym (whole_between f x (v ∷ vs) (o, n) y h) ∙ k in cc)
]

-- after the last element one is refused so
untimely : (f : ListForm) (x : JsonState) (o : Frame) (n : ℕ) (y : JsonState) (e : EncodeError) → IsOpenList f x [] (o, n) y
    → ((e ≡ AlreadyFailed) × (y.failed ≡ true)) ⊎ ((e ≡ OutOfTurn) × ((n ≡ 0) ⊎ (is_complete y.place ≡ false))) → Mistimed jer_rules y e
untimely f x o n y e h (inl a) = absurd (let t : true ≡ false = sym a.1 ∙ h.left in cc)
untimely f x o n y e h (inr a) = inr a.0

-- an item is awaited then
next_awaits : (f : ListForm) (x : JsonState) (vs : List Value) (o : Frame × ℕ) (y : JsonState) → IsOpenList f x vs o y → AwaitsValues 1 (gone_on y)
next_awaits f x vs o y h = record { unfailed = h.left; items = h.items; due = ap (λ (d : Due). record { components = Some 1; bits = d.bits; additions = d.additions }) h.due }

-- a call before an element, and one before a member
pub element_next : (o : Frame) (n m : ℕ) (y : JsonState) (r : Result (Unit {0}) EncodeError) (z : JsonState) → CountsItem n y r m z → WritesNextInTurn jer_rules AwaitsValues IsOpenList (o, n) y r (o, m) z
element_next o n m y (Ok u) z w = record {
  goes_on = record {
    law = λ l x v vs h. subst (λ (s : JsonState). AwaitsElement jer_rules IsOpenList l x v vs (o, m) s) (sym w.ok.2) (element_awaited l x v vs o n m y h w.ok.1);
    late = λ l x h. absurd (let c = h.counted in let k = w.ok.1 in omega (arith, c, k));
    behaves = w.behaves;
  };
  counts = λ l x v vs h. subst (λ (s : JsonState). AwaitsValues 1 s) (sym w.ok.2) (next_awaits l x (v ∷ vs) (o, n) y h);
  untimely = λ k i a. values_untimely k i y (Ok u) a w.lacks;
}
element_next o n m y (Err e) z w = record {
  goes_on = record {
    law = λ l x v vs h. absurd (unbegun l x v vs o n y e h w.err);
    late = λ l x h. untimely l x o n y e h w.err;
    behaves = w.behaves;
  };
  counts = λ l x v vs h. tt;
  untimely = λ k i a. values_untimely k i y (Err e) a w.lacks;
}

pub member_next : (o : Frame) (n m : ℕ) (y : JsonState) (r : Result (Unit {0}) EncodeError) (z : JsonState) → CountsItem n y r m z → WritesMemberInTurn jer_rules AwaitsValues IsOpenList (o, n) y r (o, m) z
member_next o n m y (Ok u) z w = record {
  goes_on = record {
    law = λ l x v vs h. subst (λ (s : JsonState). AwaitsMember jer_rules IsOpenList l x v vs (o, m) s) (sym w.ok.2) (member_awaited l x v vs o n m y h w.ok.1);
    late = λ l x h. absurd (let c = h.counted in let k = w.ok.1 in omega (arith, c, k));
    behaves = w.behaves;
  };
  counts = λ l x v vs h. subst (λ (s : JsonState). AwaitsValues 1 s) (sym w.ok.2) (next_awaits l x (v ∷ vs) (o, n) y h);
  untimely = λ k i a. values_untimely k i y (Ok u) a w.lacks;
}
member_next o n m y (Err e) z w = record {
  goes_on = record {
    law = λ l x v vs h. absurd (unbegun l x v vs o n y e h w.err);
    late = λ l x h. untimely l x o n y e h w.err;
    behaves = w.behaves;
  };
  counts = λ l x v vs h. tt;
  untimely = λ k i a. values_untimely k i y (Err e) a w.lacks;
}

-- a list and a bag of which something is left
pub some_left : (f : ListForm) (x : JsonState) (v : Value) (vs : List Value) (o : Frame × ℕ) (y : JsonState) (r : Result (Unit {0}) EncodeError) (z : JsonState) → IsOpenList f x (v ∷ vs) o y → ClosesItems o y r z
    → IsErrAnd r (Mistimed jer_rules y)
some_left f x v vs o y r z h w =
    let e = err_from_is_err_and r (w.early (let c = h.counted in omega (arith, c)) h.left) in
    rw e.1 (inr e.2)
