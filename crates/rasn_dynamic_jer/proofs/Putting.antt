-- Arrays and objects are written by what is in them, one after another.
use Rattle.std.proofs.Common.{◌≡◌, refl, sym, ap, ap₂, ◌∙◌, subst, inl, inr, ℕ, zero, suc, ◌+◌, ◌-◌, ◌<◌, ◌≤◌, max, List, [], ◌∷◌, ◌++◌, map, length, take, get_or, Option, Some, None, Result, Ok, Err, append_assoc, append-nil, add-one, arith, Bool, true, false}
use Rattle.std.specs.Prelude.{flat_map, option_map, is_some, if◌then◌else◌, string_bytes}
use Rattle.std.proofs.lemmas.Grind.{flat_map-append}
use Rattle.std.proofs.Math.Seq.{take-suc}
use Rattle.rasn_types.specs.AllOf.{joined}
use Rattle.rasn_types.specs.Values
use Rattle.rasn_dynamic.specs.Values.{slot_of, there, value_of}
use Rattle.rasn_dynamic.specs.declared.types.Component.{Component}
use Rattle.rasn_dynamic.specs.declared.types.Kind.{Kind}
use Rattle.rasn_dynamic.specs.declared.types.Record.{Record}
use Rattle.rasn_dynamic.specs.declared.values.Value.{Value}
use Rattle.json.specs.Json.{Json, array, object, Items, no_items, item, Members, no_members, member}
use Rattle.json.specs.Token.{Token}
use Rattle.json.specs.Tree.{HasNumbers, ItemsHaveNumbers, MembersHaveNumbers, depth, items_depth, members_depth, items_tokens, members_tokens, json_tokens}
use Rattle.json.specs.Value.{items_of}
use Rattle.json.specs.Written.{Written}
use Rattle.rasn_dynamic_jer.specs.Leaves.{below}
use Rattle.rasn_dynamic_jer.specs.Puts.{AreAllPut, ArePut, IsPut, IsRefused, member_tokens, Puts, PutsMembers, PutsToken}
use Rattle.rasn_dynamic_jer.specs.Shown.{both, component_members, group_among, is_default, is_optional, json_at, Known, known, list_members, Member, members_from, members_of, members_there, named, values_json}
use Rattle.rasn_dynamic_jer.specs.declared.error.ToJsonError.{ToJsonError}
use Rattle.rasn_dynamic_jer.specs.declared.error.ToJsonError.TheVariants.{NoJson, OutOfMemory}
use Rattle.rasn_dynamic_jer.proofs.Knowns.{knows_slot, object_of}

-- what takes a level, with one or more left
pub below_less : {A : Type 0} (n : ℕ) (f : ℕ → Option A) → (n ≡ 0 → ⊥) → below n f ≡ f (n - 1)
below_less zero f some = absurd (some refl)
below_less (suc n) f some = ap f (omega arith)

-- the tokens of arrays and objects
items_tokens_of : (js : List Json) → items_tokens (items_of js) ≡ flat_map json_tokens js ++ Token.end_array ∷ []
items_tokens_of [] = refl
items_tokens_of (j ∷ js) = ap (λ l. json_tokens j ++ l) (items_tokens_of js) ∙ sym (append_assoc (json_tokens j) (flat_map json_tokens js) (Token.end_array ∷ []))

members_tokens_of : (ms : List Member) → members_tokens (members_from ms) ≡ flat_map member_tokens ms ++ Token.end_object ∷ []
members_tokens_of [] = refl
members_tokens_of (m ∷ ms) =
    ap (λ l. Token.key m.0 ∷ (json_tokens m.1 ++ l)) (members_tokens_of ms)
    ∙ ap (λ l. Token.key m.0 ∷ l) (sym (append_assoc (json_tokens m.1) (flat_map member_tokens ms) (Token.end_object ∷ [])))

-- tokens between two others
between : (old a b new ts : List Token) (t u : Token) → a ≡ old ++ t ∷ [] → b ≡ a ++ ts → new ≡ b ++ u ∷ [] → new ≡ old ++ (t ∷ (ts ++ u ∷ []))
between old a b new ts t u e f g =
    g ∙ ap (λ l. l ++ u ∷ []) (f ∙ ap (λ l. l ++ ts) e)
    ∙ append_assoc (old ++ t ∷ []) ts (u ∷ []) ∙ append_assoc old (t ∷ []) (ts ++ u ∷ [])

abbrev array_of : Option (List Json) → Option Json
array_of o = option_map (λ js. array (items_of js)) o

pub array_put : (o : Option (List Json)) (n : ℕ) {old a b new : Written} (r : Result (Unit {0}) ToJsonError) → (n ≡ 0 → ⊥)
    → a.tokens ≡ old.tokens ++ Token.begin_array ∷ [] → a.before ≡ old.before → AreAllPut o (n - 1) a b → b.before ≡ a.before
    → PutsToken Token.end_array b r new → Puts (array_of o) n old r new
array_put o zero r some e eb h hb p = absurd (some refl)
array_put o (suc n) {old} {a} {b} {new} (Ok u) some e eb h hb p = record {
  law = record {
    json = array (items_of h.values);
    shown = ap array_of h.shown;
    numbers = h.numbers;
    within = omega (arith, h.within);
    tokens = between old.tokens a.tokens b.tokens new.tokens _ _ _ e h.tokens p.law ∙ ap (λ l. old.tokens ++ (Token.begin_array ∷ l)) (sym (items_tokens_of h.values));
  };
  before = p.before ∙ hb ∙ eb;
}
array_put o (suc n) (Err x) some e eb h hb p = record { law = inl p.law; before = p.before ∙ hb ∙ eb }

pub object_put : (o : Option (List Member)) (n : ℕ) {old a b new : Written} (r : Result (Unit {0}) ToJsonError) → (n ≡ 0 → ⊥)
    → a.tokens ≡ old.tokens ++ Token.begin_object ∷ [] → a.before ≡ old.before → ArePut o (n - 1) a b → b.before ≡ a.before
    → PutsToken Token.end_object b r new → Puts (object_of o) n old r new
object_put o zero r some e eb h hb p = absurd (some refl)
object_put o (suc n) {old} {a} {b} {new} (Ok u) some e eb h hb p = record {
  law = record {
    json = object (members_from h.members);
    shown = ap object_of h.shown;
    numbers = h.numbers;
    within = omega (arith, h.within);
    tokens = between old.tokens a.tokens b.tokens new.tokens _ _ _ e h.tokens p.law ∙ ap (λ l. old.tokens ++ (Token.begin_object ∷ l)) (sym (members_tokens_of h.members));
  };
  before = p.before ∙ hb ∙ eb;
}
object_put o (suc n) (Err x) some e eb h hb p = record { law = inl p.law; before = p.before ∙ hb ∙ eb }

-- one more item
numbers_more : (js : List Json) (j : Json) → ItemsHaveNumbers (items_of js) → HasNumbers j → ItemsHaveNumbers (items_of (js ++ j ∷ []))
numbers_more [] j h k = (k, tt)
numbers_more (i ∷ js) j h k = (h.0, numbers_more js j h.1 k)

depth_more : (js : List Json) (j : Json) (n : ℕ) → items_depth (items_of js) ≤ n → depth j ≤ n → items_depth (items_of (js ++ j ∷ [])) ≤ n
depth_more [] j n h k = omega (arith, k)
depth_more (i ∷ js) j n h k = omega (arith, h, depth_more js j n (omega (arith, h)) k)

flat_more : {A : Type 0} (f : A → List Token) (xs : List A) (x : A) → flat_map f (xs ++ x ∷ []) ≡ flat_map f xs ++ f x
flat_more f [] x = append-nil (f x)
flat_more f (y ∷ xs) x = ap (λ l. f y ++ l) (flat_more f xs x) ∙ sym (append_assoc (f y) (flat_map f xs) (f x))

some_same : {A : Type 0} {x y : A} → Some x ≡ Some y → x ≡ y
some_same {x = x} e = ap (λ o. elim o [ None ↦ x | Some z ↦ z ]) e

-- what was joined
record WasJoined {A : Type 0} (o : Option A) (p : Option (List A)) (xs : List A) : Type 0 where
  first : A
  rest : List A
  is_first : o ≡ Some first
  is_rest : p ≡ Some rest
  are : first ∷ rest ≡ xs

was_joined : {A : Type 0} (o : Option A) (p : Option (List A)) (xs : List A) → joined o p ≡ Some xs → WasJoined o p xs
was_joined None p xs e = absurd cc
was_joined (Some x) None xs e = absurd cc
was_joined (Some x) (Some ys) xs e = record { first = x; rest = ys; is_first = refl; is_rest = refl; are = some_same e }

joined_none : {A : Type 0} (o : Option A) → joined o None ≡ None
joined_none None = refl
joined_none (Some x) = refl

values_more : (ts : List Kind) (n i : ℕ) (vs : List Value) (v : Value) (js : List Json) (j : Json) → values_json ts n i vs ≡ Some js → json_at ts n i v ≡ Some j
    → values_json ts n i (vs ++ v ∷ []) ≡ Some (js ++ j ∷ [])
values_more ts n i [] v js j e f = ap (λ o. joined o (Some [])) f ∙ ap (λ l. Some (l ++ j ∷ [])) (some_same e)
values_more ts n i (w ∷ vs) v js j e f =
    let q = was_joined (json_at ts n i w) (values_json ts n i vs) js e in
    ap₂ joined q.is_first (values_more ts n i vs v q.rest j q.is_rest f) ∙ ap (λ l. Some (l ++ j ∷ [])) q.are

pub values_none : (ts : List Kind) (n i k : ℕ) (vs : List Value) (v : Value) → k < length vs → v ≡ get_or vs k v → json_at ts n i v ≡ None → values_json ts n i vs ≡ None
values_none ts n i k [] v l e f = absurd (omega (arith, l))
values_none ts n i zero (w ∷ vs) v l e f = ap (λ o. joined o (values_json ts n i vs)) (ap (json_at ts n i) (sym e) ∙ f)
values_none ts n i (suc k) (w ∷ vs) v l e f = ap (joined (json_at ts n i w)) (values_none ts n i k vs v (omega (arith, l)) e f) ∙ joined_none (json_at ts n i w)

all_put_next : (ts : List Kind) (n i : ℕ) (vs ws : List Value) (v : Value) {old a new : Written} → ws ≡ vs ++ v ∷ [] → AreAllPut (values_json ts n i vs) n old a
    → IsPut (json_at ts n i v) n a new → AreAllPut (values_json ts n i ws) n old new
all_put_next ts n i vs ws v {old} e h p = record {
  values = h.values ++ p.json ∷ [];
  shown = ap (values_json ts n i) e ∙ values_more ts n i vs v h.values p.json h.shown p.shown;
  numbers = numbers_more h.values p.json h.numbers p.numbers;
  within = omega (arith, depth_more h.values p.json n (omega (arith, h.within)) p.within);
  tokens = p.tokens ∙ ap (λ l. l ++ json_tokens p.json) h.tokens ∙ append_assoc old.tokens (flat_map json_tokens h.values) (json_tokens p.json) ∙ ap (λ l. old.tokens ++ l) (sym (flat_more json_tokens h.values p.json));
}

took_next : {A : Type 0} (xs : List A) (k : ℕ) (x : A) → k < length xs → x ≡ get_or xs k x → take (k + 1) xs ≡ take k xs ++ x ∷ []
took_next xs k x l e = rw (add-one k) (take-suc xs k x l ∙ ap (λ y. take k xs ++ y ∷ []) (sym e))

pub all_put_more : (ts : List Kind) (n i k : ℕ) (vs : List Value) (v : Value) {old a new : Written} → AreAllPut (values_json ts n i (take k vs)) n old a
    → k < length vs → v ≡ get_or vs k v → IsPut (json_at ts n i v) n a new → AreAllPut (values_json ts n i (take (k + 1) vs)) n old new
all_put_more ts n i k vs v h l e p = all_put_next ts n i (take k vs) (take (k + 1) vs) v (took_next vs k v l e) h p

-- one more component
record WereBoth (o p : Option (List Member)) (ms : List Member) : Type 0 where
  first : List Member
  rest : List Member
  is_first : o ≡ Some first
  is_rest : p ≡ Some rest
  are : first ++ rest ≡ ms

were_both : (o p : Option (List Member)) (ms : List Member) → both o p ≡ Some ms → WereBoth o p ms
were_both None p ms e = absurd cc
were_both (Some xs) None ms e = absurd cc
were_both (Some xs) (Some ys) ms e = record { first = xs; rest = ys; is_first = refl; is_rest = refl; are = some_same e }

both_none : (o : Option (List Member)) → both o None ≡ None
both_none None = refl
both_none (Some x) = refl

list_more : (ts : List Kind) (b : Bool) (n : ℕ) (cs : List Component) (vs : List Value) (c : Component) (v : Value) (ms ns : List Member)
    → list_members ts b n cs (map (known ts) vs) ≡ Some ms → component_members ts b n c (known ts v) ≡ Some ns
    → list_members ts b n (cs ++ c ∷ []) (map (known ts) (vs ++ v ∷ [])) ≡ Some (ms ++ ns)
list_more ts b n [] [] c v ms ns e f = ap (λ o. both o (Some [])) f ∙ ap Some (append-nil ns) ∙ ap (λ l. Some (l ++ ns)) (some_same e)
list_more ts b n [] (w ∷ vs) c v ms ns e f = absurd cc
list_more ts b n (d ∷ cs) [] c v ms ns e f = absurd cc
list_more ts b n (d ∷ cs) (w ∷ vs) c v ms ns e f =
    let q = were_both (component_members ts b n d (known ts w)) (list_members ts b n cs (map (known ts) vs)) ms e in
    ap₂ both q.is_first (list_more ts b n cs vs c v q.rest ns q.is_rest f)
    ∙ ap Some (sym (append_assoc q.first q.rest ns)) ∙ ap (λ l. Some (l ++ ns)) q.are

pub list_none : (ts : List Kind) (b : Bool) (n k : ℕ) (cs : List Component) (vs : List Value) (c : Component) (v : Value) → k < length cs → k < length vs
    → c ≡ get_or cs k c → v ≡ get_or vs k v → component_members ts b n c (known ts v) ≡ None → list_members ts b n cs (map (known ts) vs) ≡ None
list_none ts b n k [] vs c v l m e f g = absurd (omega (arith, l))
list_none ts b n k (d ∷ cs) [] c v l m e f g = absurd (omega (arith, m))
list_none ts b n zero (d ∷ cs) (w ∷ vs) c v l m e f g =
    ap (λ o. both o (list_members ts b n cs (map (known ts) vs))) (ap₂ (λ x y. component_members ts b n x (known ts y)) (sym e) (sym f) ∙ g)
list_none ts b n (suc k) (d ∷ cs) (w ∷ vs) c v l m e f g =
    ap (both (component_members ts b n d (known ts w))) (list_none ts b n k cs vs c v (omega (arith, l)) (omega (arith, m)) e f g)
    ∙ both_none (component_members ts b n d (known ts w))

pub list_uneven : (ts : List Kind) (b : Bool) (n : ℕ) (cs : List Component) (vs : List Value) → (length cs ≡ length vs → ⊥) → list_members ts b n cs (map (known ts) vs) ≡ None
list_uneven ts b n [] [] h = absurd (h refl)
list_uneven ts b n [] (v ∷ vs) h = refl
list_uneven ts b n (c ∷ cs) [] h = refl
list_uneven ts b n (c ∷ cs) (v ∷ vs) h =
    ap (both (component_members ts b n c (known ts v))) (list_uneven ts b n cs vs (λ e. h (ap suc e))) ∙ both_none (component_members ts b n c (known ts v))

members_numbers : (ms ns : List Member) → MembersHaveNumbers (members_from ms) → MembersHaveNumbers (members_from ns) → MembersHaveNumbers (members_from (ms ++ ns))
members_numbers [] ns h k = k
members_numbers (m ∷ ms) ns h k = (h.0, members_numbers ms ns h.1 k)

members_deep : (ms ns : List Member) (n : ℕ) → members_depth (members_from ms) ≤ n → members_depth (members_from ns) ≤ n → members_depth (members_from (ms ++ ns)) ≤ n
members_deep [] ns n h k = k
members_deep (m ∷ ms) ns n h k = omega (arith, h, members_deep ms ns n (omega (arith, h)) k)

-- members after others
pub put_after : (o p q : Option (List Member)) (n : ℕ) {old a new : Written} (h : ArePut o n old a) (k : ArePut p n a new) → q ≡ Some (h.members ++ k.members) → ArePut q n old new
put_after o p q n {old} h k e = record {
  members = h.members ++ k.members;
  shown = e;
  numbers = members_numbers h.members k.members h.numbers k.numbers;
  within = omega (arith, members_deep h.members k.members n (omega (arith, h.within)) (omega (arith, k.within)));
  tokens = k.tokens ∙ ap (λ l. l ++ flat_map member_tokens k.members) h.tokens
      ∙ append_assoc old.tokens (flat_map member_tokens h.members) (flat_map member_tokens k.members)
      ∙ ap (λ l. old.tokens ++ l) (sym (flat_map-append member_tokens h.members k.members));
}

pub list_put_more : (ts : List Kind) (b : Bool) (n k : ℕ) (cs : List Component) (vs : List Value) (c : Component) (v : Value) {old a new : Written}
    → ArePut (list_members ts b n (take k cs) (map (known ts) (take k vs))) n old a → k < length cs → k < length vs → c ≡ get_or cs k c → v ≡ get_or vs k v
    → ArePut (component_members ts b n c (known ts v)) n a new
    → ArePut (list_members ts b n (take (k + 1) cs) (map (known ts) (take (k + 1) vs))) n old new
list_put_more ts b n k cs vs c v h l m e f p =
    put_after _ _ _ n h p (ap₂ (λ xs ys. list_members ts b n xs (map (known ts) ys)) (took_next cs k c l e) (took_next vs k v m f)
    ∙ list_more ts b n (take k cs) (take k vs) c v h.members p.members h.shown p.shown)

-- root components, and additions after them
pub both_put : (o p : Option (List Member)) (n : ℕ) {old a new : Written} → ArePut o n old a → ArePut p n a new → ArePut (both o p) n old new
both_put o p n h k = put_after o p _ n h k (ap₂ both h.shown k.shown)

-- a component that is there
there_is : (o : Option Values.Value) → is_some o ≡ true → o ≡ Some (there o)
there_is None h = absurd cc
there_is (Some v) h = refl

members_at : (ts : List Kind) (b : Bool) (n : ℕ) (c : Component) (v : Value) → is_some (slot_of v) ≡ true
    → component_members ts b n c (known ts v) ≡ (if is_default ts c (value_of v) then Some [] else members_there ts n (group_among ts b c) c (known ts v))
members_at ts b n c v h = ap (members_of ts n (group_among ts b c) c (known ts v)) (knows_slot ts v ∙ there_is (slot_of v) h)

pub members_left : (ts : List Kind) (b : Bool) (n : ℕ) (c : Component) (v : Value) → is_some (slot_of v) ≡ true → is_default ts c (value_of v) ≡ true
    → component_members ts b n c (known ts v) ≡ Some []
members_left ts b n c v h d = members_at ts b n c v h ∙ ap (λ x. if x then Some [] else members_there ts n (group_among ts b c) c (known ts v)) d

pub members_written : (ts : List Kind) (b : Bool) (n : ℕ) (c : Component) (v : Value) → is_some (slot_of v) ≡ true → is_default ts c (value_of v) ≡ false
    → component_members ts b n c (known ts v) ≡ members_there ts n (group_among ts b c) c (known ts v)
members_written ts b n c v h d = members_at ts b n c v h ∙ ap (λ x. if x then Some [] else members_there ts n (group_among ts b c) c (known ts v)) d

-- a refusal of a part is one of the whole
pub refused_as : {A B : Type 0} (o : Option A) (p : Option B) (e : ToJsonError) → (o ≡ None → p ≡ None) → IsRefused o e → IsRefused p e
refused_as o p e f (inl m) = inl m
refused_as o p e f (inr q) = inr (q.0, f q.1)

pub both_then : (o p : Option (List Member)) (n : ℕ) {old a new : Written} (r : Result (Unit {0}) ToJsonError) → ArePut o n old a → a.before ≡ old.before
    → PutsMembers p n a r new → PutsMembers (both o p) n old r new
both_then o p n (Ok u) h b k = record { law = both_put o p n h k.law; before = k.before ∙ b }
both_then o p n (Err e) h b k = record { law = refused_as p (both o p) e (λ none. ap (both o) none ∙ both_none o) k.law; before = k.before ∙ b }
