-- Parts of arrays and objects, and paths to them.
use Rattle.std.proofs.Common.{◌≡◌, refl, sym, ap, ◌∙◌, subst, ℕ, zero, suc, ◌+◌, ◌<◌, ◌≤◌, ◌⊎◌, List, [], ◌∷◌, length, get_or, Option, Some, None, Result, Ok, Err, MatchResult, Bool, true, false, inl, inr, option_map, arith}
use Rattle.std.specs.Prelude.{◌==◌, if◌then◌else◌, decimal, IfErr, IfSome, is_some, OnOk, string_bytes}
use Rattle.std.specs.Borrow.{Bor}
use Rattle.std.specs.Option.{option_and_then, SomeIff}
use Rattle.json.specs.Find.{as_array, as_object, get_item}
use Rattle.json.specs.Json.{Items, Json, max_depth, Members}
use Rattle.json.specs.Value.{items_view, members_view, value_view}
use Rattle.json.specs.declared.value.Value.{Value as JsonTree}
use Rattle.rasn_dynamic.specs.Values.{slot_of}
use Rattle.rasn_dynamic.specs.declared.types.Component.{Component}
use Rattle.rasn_dynamic.specs.declared.types.Kind.{Kind}
use Rattle.rasn_dynamic.specs.declared.types.Kind.TheVariants.{List as ListKind, SetOf, Record as RecordKind, Choice as ChoiceKind, Open as OpenKind, Simple as SimpleKind, Date as DateKind, Containing}
use Rattle.rasn_dynamic.specs.declared.values.Value.{Value as Tree}
use Rattle.per_messages.specs.Paths.{element_type, HasNoRefused, here, in_part, IsFaultOf, IsLast, IsPlaced, IsRefused, IsRefusedItem, IsRefusedMember, ItemsAreTold, lacking, Leads, LeadsOn}
use Rattle.per_messages.specs.Paths.{member_at, member_type, members_read, MembersAreTold, onward, to_element, to_member, to_missing, to_other}
use Rattle.rasn_dynamic_jer.specs.Shown.{kind_within}
use Rattle.rasn_dynamic_jer.specs.FromJson.{IsJson, IsNoText, IsUntold, member_count, no_room, told_at, untold}
use Rattle.per_messages.specs.declared.located.Fault.{Fault}

pub item_there : {A : Type 0} (vs : List (JsonTree A)) (m : ℕ) (v : JsonTree A) → m < length vs → v ≡ get_or vs m v → get_item m (items_view vs) ≡ Some (value_view v)
item_there [] m v l e = absurd (omega (arith, l))
item_there (w ∷ vs) zero v l e = ap (λ x. Some (value_view x)) (sym e)
item_there (w ∷ vs) (suc m) v l e = item_there vs m v (omega (arith, l)) e

pub member_there : {A : Type 0} (ms : List (Bor (List ℕ) × JsonTree A)) (m : ℕ) (x : Bor (List ℕ) × JsonTree A) → m < length ms → x ≡ get_or ms m x → member_at m (members_view ms) ≡ Some (x.0.now, value_view x.1)
member_there {A} [] m x l e = absurd (omega (arith, l))
member_there {A} (y ∷ ms) zero x l e = ap (λ (z : Bor (List ℕ) × JsonTree A). Some (z.0.now, value_view z.1)) (sym e)
member_there {A} (y ∷ ms) (suc m) x l e = member_there ms m x (omega (arith, l)) e

module _ (ts : List Kind) (n : ℕ) (k : Kind) (j : Json) (p q r : List ℕ) (e : Json) where
  pub element_leads : (i number : ℕ) (js : Items) → element_type k ≡ Some i → as_array j ≡ Some js → IsRefusedItem ts n i js number e
      → r ≡ onward p (decimal number) → LeadsOn ts n (Some i) e r q → Leads ts (suc n) (Some k) j p q
  element_leads i number js t a d f w =
      to_element i d.index e t (ap (option_and_then (get_item d.index)) a ∙ d.there) d.untold
      (subst (λ x. Leads ts n (kind_within ts i) e x q) (f ∙ ap (λ m. onward p (decimal m)) d.numbered) w)

  pub member_leads : (o : Option ℕ) (s : List ℕ) → member_type ts k s ≡ o → IsRefusedMember ts n k j s e → r ≡ onward p s → LeadsOn ts n o e r q
      → Leads ts (suc n) (Some k) j p q
  member_leads None s t d f w = subst (λ x. Leads ts (suc n) (Some k) j p x) (sym (w ∙ f)) (to_other d.index s e d.there t)
  member_leads (Some i) s t d f w =
      to_member i d.index s e d.there t (subst (λ o. IsRefused ts n o e) t d.refused) (subst (λ x. Leads ts n (kind_within ts i) e x q) f w)

pub on_ok : {T E P Q : Type 0} (r : Result T E) → (P → Q) → OnOk r P → OnOk r Q
on_ok (Ok x) f h = f h
on_ok (Err e) f h = h

is_none_some : {A : Type 0} {o : Option A} {x : A} → o ≡ None → o ≡ Some x → ⊥
is_none_some e f = let h : None ≡ Some _ = sym e ∙ f in absurd cc

-- where a path may end
pub no_type_last : (ts : List Kind) (n : ℕ) (k : Option Kind) (j : Json) → k ≡ None → IsLast ts n k j
no_type_last ts zero k j e = tt
no_type_last ts (suc n) None j e = tt
no_type_last ts (suc n) (Some k) j e = absurd cc

pub no_level_last : (ts : List Kind) (n : ℕ) (k : Option Kind) (j : Json) → n ≡ 0 → IsLast ts n k j
no_level_last ts zero k j e = tt
no_level_last ts (suc n) k j e = absurd cc

pub no_level : (n : ℕ) → ¬ (1 ≤ n) → n ≡ 0
no_level zero h = refl
no_level (suc n) h = absurd (h (omega arith))

pub array_last : (ts : List Kind) (n : ℕ) (k : Kind) (j : Json) (i : ℕ) → element_type k ≡ Some i → IfSome (as_array j) (ItemsAreTold ts n i) → HasNoRefused ts n k j
array_last ts n (ListKind a c) j i e h =
    record { items = λ b f. let p : i ≡ b = cc in subst (λ x. IfSome (as_array j) (ItemsAreTold ts n x)) p h; members = tt; complete = tt }
array_last ts n (SetOf a c) j i e h =
    record { items = λ b f. let p : i ≡ b = cc in subst (λ x. IfSome (as_array j) (ItemsAreTold ts n x)) p h; members = tt; complete = tt }
array_last ts n (SimpleKind s) j i e h = absurd cc
array_last ts n DateKind j i e h = absurd cc
array_last ts n (RecordKind r) j i e h = absurd cc
array_last ts n (ChoiceKind c) j i e h = absurd cc
array_last ts n (OpenKind o) j i e h = absurd cc
array_last ts n (Containing i') j i e h = absurd cc

pub object_last : (ts : List Kind) (n : ℕ) (k : Kind) (j : Json) (o : Option Members) → element_type k ≡ None → members_read k j ≡ o
    → IfSome o (λ ms. MembersAreTold ts n k ms × (lacking j k ≡ None)) → HasNoRefused ts n k j
object_last ts n k j None e m h =
    record { items = λ i f. absurd (is_none_some e f); members = subst (λ x. IfSome x (MembersAreTold ts n k)) (sym m) tt; complete = subst (λ x. IfSome x (λ ms. lacking j k ≡ None)) (sym m) tt }
object_last ts n k j (Some ms) e m h =
    record { items = λ i f. absurd (is_none_some e f); members = subst (λ x. IfSome x (MembersAreTold ts n k)) (sym m) h.0; complete = subst (λ x. IfSome x (λ ms. lacking j k ≡ None)) (sym m) h.1 }

pub missing_leads : (ts : List Kind) (n : ℕ) (k : Kind) (c : Component) (j : Json) (p q s : List ℕ) → lacking j k ≡ Some c → s ≡ string_bytes c.name → q ≡ onward p s
    → Leads ts (suc n) (Some k) j p q
missing_leads ts n (RecordKind r) c j p q s m e w = subst (λ x. Leads ts (suc n) (Some (RecordKind r)) j p x) (sym (w ∙ ap (onward p) e)) (to_missing c m)
missing_leads ts n (SimpleKind x) c j p q s m e w = absurd cc
missing_leads ts n DateKind c j p q s m e w = absurd cc
missing_leads ts n (ListKind i x) c j p q s m e w = absurd cc
missing_leads ts n (SetOf i x) c j p q s m e w = absurd cc
missing_leads ts n (ChoiceKind x) c j p q s m e w = absurd cc
missing_leads ts n (OpenKind x) c j p q s m e w = absurd cc
missing_leads ts n (Containing x) c j p q s m e w = absurd cc

-- the members that are read are those of the object
only_are : (b : Bool) (o : Option Members) (ms : Members) → (if b then o else None) ≡ Some ms → o ≡ Some ms
only_are true o ms e = e
only_are false o ms e = absurd cc

pub read_are : (k : Kind) (j : Json) (ms : Members) → members_read k j ≡ Some ms → as_object j ≡ Some ms
read_are (RecordKind r) j ms e = e
read_are (ChoiceKind c) j ms e = only_are (member_count (as_object j) == 1) (as_object j) ms e
read_are (OpenKind o) j ms e = only_are (member_count (as_object j) == 1) (as_object j) ms e
read_are (SimpleKind x) j ms e = absurd cc
read_are DateKind j ms e = absurd cc
read_are (ListKind i x) j ms e = absurd cc
read_are (SetOf i x) j ms e = absurd cc
read_are (Containing x) j ms e = absurd cc

-- parts that are looked at one after another
abbrev pub ItemsAreToldTo : List Kind → ℕ → ℕ → Items → ℕ → Type 0
ItemsAreToldTo ts n i js count = (m : ℕ) (e : Json) → m < count → get_item m js ≡ Some e → is_some (told_at ts n i e) ≡ true

abbrev pub MembersAreToldTo : List Kind → ℕ → Kind → Members → ℕ → Type 0
MembersAreToldTo ts n k ms count = (m : ℕ) (s : List ℕ) (e : Json) → m < count → member_at m ms ≡ Some (s, e)
    → is_some (option_and_then (λ i. told_at ts n i e) (member_type ts k s)) ≡ true

pub item_within : {A : Type 0} (vs : List (JsonTree A)) (m : ℕ) (e : Json) → get_item m (items_view vs) ≡ Some e → m < length vs
item_within [] m e h = absurd cc
item_within (w ∷ vs) zero e h = omega arith
item_within (w ∷ vs) (suc m) e h = let l = item_within vs m e h in omega (arith, l)

pub member_within : {A : Type 0} (ms : List (Bor (List ℕ) × JsonTree A)) (m : ℕ) (s : List ℕ) (e : Json) → member_at m (members_view ms) ≡ Some (s, e) → m < length ms
member_within {A} [] m s e h = absurd cc
member_within {A} (y ∷ ms) zero s e h = omega arith
member_within {A} (y ∷ ms) (suc m) s e h = let l = member_within ms m s e h in omega (arith, l)

below_more : (m k : ℕ) → m < k + 1 → (m < k) ⊎ (m ≡ k)
below_more zero zero l = inr refl
below_more zero (suc k) l = inl (omega arith)
below_more (suc m) zero l = absurd (omega (arith, l))
below_more (suc m) (suc k) l = go (below_more m k (omega (arith, l)))
  where
    go : (m < k) ⊎ (m ≡ k) → (suc m < suc k) ⊎ (suc m ≡ suc k)
    go (inl h) = inl (omega (arith, h))
    go (inr e) = inr (ap suc e)

pub items_none : (ts : List Kind) (n i : ℕ) (js : Items) → ItemsAreToldTo ts n i js 0
items_none ts n i js m e l h = absurd (omega (arith, l))

pub items_more : {A : Type 0} (ts : List Kind) (n i : ℕ) (vs : List (JsonTree A)) (k : ℕ) (v : JsonTree A) → k < length vs → v ≡ get_or vs k v
    → is_some (told_at ts n i (value_view v)) ≡ true → ItemsAreToldTo ts n i (items_view vs) k → ItemsAreToldTo ts n i (items_view vs) (k + 1)
items_more ts n i vs k v few is told h m e less there = go (below_more m k less)
  where
    go : (m < k) ⊎ (m ≡ k) → is_some (told_at ts n i e) ≡ true
    go (inl l) = h m e l there
    go (inr q) =
        let p : Some e ≡ Some (value_view v) = sym there ∙ ap (λ x. get_item x (items_view vs)) q ∙ item_there vs k v few is in
        let r : e ≡ value_view v = cc in subst (λ x. is_some (told_at ts n i x) ≡ true) (sym r) told

pub items_all : {A : Type 0} (ts : List Kind) (n i : ℕ) (vs : List (JsonTree A)) (k : ℕ) → length vs ≤ k → ItemsAreToldTo ts n i (items_view vs) k
    → ItemsAreTold ts n i (items_view vs)
items_all ts n i vs k l h m e there = let b = item_within vs m e there in h m e (omega (arith, b, l)) there

pub members_none : (ts : List Kind) (n : ℕ) (k : Kind) (ms : Members) → MembersAreToldTo ts n k ms 0
members_none ts n k ms m s e l h = absurd (omega (arith, l))

pub members_more : {A : Type 0} (ts : List Kind) (n : ℕ) (t : Kind) (ms : List (Bor (List ℕ) × JsonTree A)) (k : ℕ) (x : Bor (List ℕ) × JsonTree A) (o : Option ℕ)
    → k < length ms → x ≡ get_or ms k x → o ≡ member_type ts t x.0.now → is_some (option_and_then (λ i. told_at ts n i (value_view x.1)) o) ≡ true
    → MembersAreToldTo ts n t (members_view ms) k → MembersAreToldTo ts n t (members_view ms) (k + 1)
members_more ts n t ms k x o few is of told h m s e less there = go (below_more m k less)
  where
    go : (m < k) ⊎ (m ≡ k) → is_some (option_and_then (λ i. told_at ts n i e) (member_type ts t s)) ≡ true
    go (inl l) = h m s e l there
    go (inr q) =
        let p : Some (s, e) ≡ Some (x.0.now, value_view x.1) = sym there ∙ ap (λ y. member_at y (members_view ms)) q ∙ member_there ms k x few is in
        let r : (s, e) ≡ (x.0.now, value_view x.1) = cc in
        subst (λ (y : List ℕ × Json). is_some (option_and_then (λ i. told_at ts n i y.1) (member_type ts t y.0)) ≡ true) (sym r)
        (subst (λ y. is_some (option_and_then (λ i. told_at ts n i (value_view x.1)) y) ≡ true) of told)

pub members_all : {A : Type 0} (ts : List Kind) (n : ℕ) (t : Kind) (ms : List (Bor (List ℕ) × JsonTree A)) (k : ℕ) → length ms ≤ k → MembersAreToldTo ts n t (members_view ms) k
    → MembersAreTold ts n t (members_view ms)
members_all ts n t ms k l h m s e there = let b = member_within ms m s e there in h m s e (omega (arith, b, l)) there

-- there is none, or one
pub none_of : {A B : Type 0} (o : Option A) (f : A → B) (r : Option B) → option_map f o ≡ r → ((x : A) → o ≡ Some x → ⊥) → r ≡ None
none_of None f r e h = sym e
none_of (Some x) f r e h = absurd (h x refl)

pub if_none : {A : Type 0} (P : A → Type 0) (o : Option A) → o ≡ None → IfSome o P
if_none P o e = subst (λ r. IfSome r P) (sym e) tt

pub if_some : {A : Type 0} (P : A → Type 0) (o : Option A) (x : A) → o ≡ Some x → P x → IfSome o P
if_some P o x e h = subst (λ r. IfSome r P) (sym e) h

pub some_so : {A : Type 0} (P : A → Type 0) (o : Option A) (x : A) → IfSome o P → o ≡ Some x → P x
some_so P o x h e = subst (λ r. IfSome r P) e h

pub none_so : (o : Option ℕ) (P : Type 0) (n : ℕ) → SomeIff o P n → o ≡ None → ¬ P
none_so None P n m e = m
none_so (Some x) P n m e = absurd cc

pub stays : (ts : List Kind) (n : ℕ) (o : Option ℕ) (i : ℕ) (j : Json) (p : List ℕ) → o ≡ Some i → IsLast ts n (kind_within ts i) j → LeadsOn ts n o j p p
stays ts n o i j p e h = subst (λ x. LeadsOn ts n x j p p) (sym e) (here h)

-- a fault of a text that is JSON
abbrev pub ToldOr : List Kind → ℕ → Json → Result Tree Fault → Type 0
ToldOr ts i j r = MatchResult r (λ x. option_map Some (told_at ts max_depth i j) ≡ Some (slot_of x)) (λ f. IsUntold (told_at ts max_depth i j) f.error)

pub fault_told : (ts : List Kind) (i : ℕ) (text : List ℕ) (j : Json) (r : Result Tree Fault) → IsJson text j → ToldOr ts i j r → IfErr r (λ f. IsNoText ts i text f.error)
fault_told ts i text j (Ok x) is h = tt
fault_told ts i text j (Err f) is (inl h) = no_room h
fault_told ts i text j (Err f) is (inr h) = untold j is h

pub fault_placed : (ts : List Kind) (i : ℕ) (text : List ℕ) (j : Json) (r : Result Tree Fault) → IsJson text j → IfErr r (IsPlaced ts i j) → IfErr r (IsFaultOf ts i text)
fault_placed ts i text j (Ok x) is h = tt
fault_placed ts i text j (Err f) is h = in_part j is h
