-- Choices and additions, whose one value is written by itself, and then into what waited outside.
use Rattle.std.proofs.Common.{◌≡◌, ◌&&◌, Bool, true, false, zero, suc, List, Option, Some, None, Result, Ok, Err, refl, sym, ap, ap₂, ◌∙◌, subst, append-nil, inl, inr, ℕ}
use Rattle.std.specs.Prelude.{if◌then◌else◌, IfOk}
use Rattle.rasn_types.specs.Values.{Value, alternative, Side}
use Rattle.rasn_types.proofs.Values.{slots-as_slots}
use Rattle.rasn_schema.specs.Structures.{alternative_in, choice_schema}
use Rattle.rasn_schema.specs.Lawful.{is_group_schema}
use Rattle.rasn_schema.specs.Normal.{are_idle, is_idle, is_vacant, settle}
use Rattle.rasn_schema.specs.Records.{record_at}
use Rattle.rasn_schema.specs.Schemas.{group, listed, Presence, Schema, Parts}
use Rattle.rasn_traits.specs.Additions.{addition_bit, AdditionClosed, AdditionOpened}
use Rattle.rasn_traits.specs.Calls.{Written}
use Rattle.rasn_traits.specs.Choices.{OpenedAlternative, OpenedChoice}
use Rattle.json.specs.Json.{Json, object, Members, no_members, member}
use Rattle.rasn_jer.proofs.Refusing.{bit_there, not_outside}
use Rattle.rasn_jer.proofs.Writing.{leaf, over_ok}
use Rattle.rasn_jer.specs.Laws.Relations.{unrefused}
use Rattle.rasn_jer.specs.Laws.EmptyGroups.{written_busy}
use Rattle.rasn_jer.specs.Frames.{behind, after_all, inside, is_complete, is_full, past_added, Frame, JsonState, unfailed_at, vacant_frame, with_addition, with_group, with_value}
use Rattle.rasn_jer.specs.Rules.{AddedSo, EntersChoice, EntersFrame, IsOutside, IsRefused, IsUnclosed, jer_rules, Opens, OpensAddition, Presents, Stays, WritesText}
use Rattle.rasn_jer.specs.Shown.{in_alternative, IsString, IsThere, is_present, is_required, Shows, shows_contents, shows_alternative, shows_any, shows_bag, shows_bits, shows_item, shows_list, shows_nothing, shows_octets, shows_ordered, shows_record, shows_string, shows_truth, shows_whole}
use Rattle.rasn_jer.specs.Shown.{addition_left_out, addition_spread, addition_there, additions_end, part_left_out, part_there, parts_end, ShowsAdditions, ShowsParts}
use Rattle.rasn_jer.specs.Texts.{enclosed, member_text, text_of}
use Rattle.rasn_jer.specs.declared.error.EncodeError.{EncodeError}
use Rattle.rasn_jer.specs.declared.error.EncodeError.TheVariants.{AlreadyFailed, NoJson, OutOfMemory, OutOfTurn, VariantNotInChoice}
use Rattle.rasn_jer.specs.declared.frame.Kind.{Kind}
use Rattle.rasn_jer.specs.declared.frame.Kind.TheVariants as Kinds

-- one value was written by itself
pub record Alone (s : Schema) (v : Value) (j : JsonState) : Type 0 where
  pub unfailed : j.failed ≡ false
  pub kind : j.place.kind ≡ Kinds.One
  pub complete : is_complete j.place ≡ true
  pub full : is_full j.place ≡ true
  pub json : Json
  pub shows : Shows s v json
  pub text : j.place.text ≡ text_of json

pub alone : (i j : JsonState) (s : Schema) (v : Value) → i ≡ inside Kinds.One → Presents i s v j → Alone s v j
alone i j s v e w =
    let before : i.place ≡ vacant_frame Kinds.One = ap (λ (z : JsonState). z.place) e in
    let now : j.place ≡ behind (vacant_frame Kinds.One) (text_of w.json) = w.taken.written ∙ ap (λ (p : Frame). with_value p.kind p (text_of w.json)) before in
    record {
      unfailed = w.left;
      kind = ap (λ (p : Frame). p.kind) now;
      complete = ap is_complete now;
      full = ap is_full now;
      json = w.json;
      shows = w.shows;
      text = ap (λ (p : Frame). p.text) now;
    }

-- what is whole is taken out
never_unclosed : (e : EncodeError) (kind : Kind) (j : JsonState) → j.failed ≡ false → j.place.kind ≡ kind → is_complete j.place ≡ true → IsUnclosed kind false j e → ⊥
never_unclosed NoJson kind j f k c h = h
never_unclosed OutOfMemory kind j f k c h = h
never_unclosed OutOfTurn kind j f k c (inl h) = h k
never_unclosed OutOfTurn kind j f k c (inr (inl h)) = absurd (let t : true ≡ false = sym c ∙ h in cc)
never_unclosed OutOfTurn kind j f k c (inr (inr h)) = absurd (let t : true ≡ false = sym h in cc)
never_unclosed AlreadyFailed kind j f k c h = absurd (let t : true ≡ false = sym h ∙ f in cc)
never_unclosed VariantNotInChoice kind j f k c h = h

-- outside it is as it was before
abbrev state_of : Frame → Bool → JsonState
state_of p f = record { place = p; failed = f }

pub back : (o : Frame) (x : JsonState) → o ≡ x.place → x.failed ≡ false → unfailed_at o ≡ x
back o x w b = ap₂ state_of w (sym b)

-- what passes out of a choice that is open
passes : (x i : JsonState) (e : EncodeError) (s : Schema) (v : Value) (ps qs : Parts) (marker : Bool) (d : Side) (k : ℕ) → i ≡ inside Kinds.One → alternative_in (choice_schema ps marker qs) d k ≡ Some s
    → jer_rules.refuses e i s v → jer_rules.refuses e x (choice_schema ps marker qs) (alternative d k v)
passes x i e s v ps qs marker d k w a q = elim q [
  | inl z ↦ absurd (unrefused e i (ap (λ (z : JsonState). z.failed) w) (ap (λ (z : JsonState). is_full z.place) w) z)
  | inr z ↦ inr (in_alternative a z)
]

-- a choice is opened
module _ (alternatives after_it : ℕ → Parts) (marker : Bool) {N : Type 0} (x : JsonState) where
  pub choice_opened : (r : Result (Frame × N) EncodeError) (y : JsonState) → EntersChoice x r y
      → OpenedChoice jer_rules (λ (s : Schema) (z : JsonState) (o : Frame × N) (i : JsonState). Opens Kinds.One z o.0 i) (λ n. choice_schema (alternatives n) marker (after_it n)) x r y
  choice_opened (Ok o) y w = λ n. (w.opened, record { room = λ e m. m; of_choice = λ e d k s v a q. passes x y e s v (alternatives n) (after_it n) marker d k w.opened.within a q })
  choice_opened (Err e) y w = elim w.err [ inl m ↦ inl m | inr q ↦ inr (λ n v. inl (subst (λ (z : EncodeError). IsRefused z x) (sym q.0) q.1)) ]

  -- to write the alternative at a place
  pub alternative_opened : (d : Side) (k : ℕ) (r : Result (Frame × N) EncodeError) (y : JsonState) → EntersChoice x r y
      → OpenedAlternative jer_rules (λ (s : Schema) (d : Side) (k : ℕ) (z : JsonState) (o : Frame × N) (i : JsonState). Opens Kinds.One z o.0 i) (λ n. choice_schema (alternatives n) marker (after_it n)) d k x r y
  alternative_opened d k (Ok o) y w = λ n. (w.opened, record { room = λ e m. m; of_choice = λ e s v a q. passes x y e s v (alternatives n) (after_it n) marker d k w.opened.within a q })
  alternative_opened d k (Err e) y w = elim w.err [ inl m ↦ inl m | inr q ↦ inr (λ n v. inl (subst (λ (z : EncodeError). IsRefused z x) (sym q.0) q.1)) ]

-- the text of an object of one member
one_member : (name t : List ℕ) (j : Json) → t ≡ text_of j → enclosed 123 (member_text name t) 125 ≡ text_of (object (member name j no_members))
one_member name t j e = ap (λ (l : List ℕ). enclosed 123 l 125) (ap (member_text name) e ∙ sym (append-nil (member_text name (text_of j))))

-- and closed: the value of its alternative is an object's one member
pub choice_closed : {T E : Type 0} (ps qs : Parts) (marker : Bool) (d : Side) (k : ℕ) (s : Schema) (v : Value) (x i j m : JsonState) (o p : Frame) (text : Result T E)
    (items : T → List ℕ) (r : Result (Unit {0}) EncodeError) (y : JsonState)
    → Opens Kinds.One x o i → alternative_in (choice_schema ps marker qs) d k ≡ Some s → Presents i s v j
    → p ≡ j.place → m ≡ unfailed_at o → IfOk text (λ t. (name : List ℕ) × (items t ≡ enclosed 123 (member_text name p.text) 125))
    → WritesText text items m r y → Written jer_rules (choice_schema ps marker qs) (alternative d k v) x r y
choice_closed ps qs marker d k s v x i j m o p text items r y h a w e f t q =
    let one = alone i j s v h.within w in
    let inner : p.text ≡ text_of one.json = ap (λ (z : Frame). z.text) e ∙ one.text in
    let outside : m ≡ x = f ∙ back o x h.outer h.begun in
    let written = leaf text items m (choice_schema ps marker qs) (alternative d k v) r y q (over_ok text t (λ u n. record {
      json = object (member n.0 one.json no_members);
      is_text = n.1 ∙ one_member n.0 p.text one.json inner;
      shows = shows_alternative a one.shows;
    })) in
    subst (λ (z : JsonState). Written jer_rules (choice_schema ps marker qs) (alternative d k v) z r y) outside written.law

-- of whatever schema
pub alternative_closed : {T E : Type 0} (c : Schema) (d : Side) (k : ℕ) (s : Schema) (v : Value) (x i j m : JsonState) (o p : Frame) (text : Result T E) (items : T → List ℕ) (r : Result (Unit {0}) EncodeError) (y : JsonState)
    → Opens Kinds.One x o i → alternative_in c d k ≡ Some s → Presents i s v j
    → p ≡ j.place → m ≡ unfailed_at o → IfOk text (λ t. (name : List ℕ) × (items t ≡ enclosed 123 (member_text name p.text) 125))
    → WritesText text items m r y → Written jer_rules c (alternative d k v) x r y
alternative_closed (Schema.choice ps qs marker) d k s v x i j m o p text items r y h a w e f t q = choice_closed ps qs marker d k s v x i j m o p text items r y h a w e f t q
alternative_closed _ d k s v x i j m o p text items r y h a w e f t q = absurd cc

pub choice_unclosed : (s : Schema) (v : Value) (i j : JsonState) (e : EncodeError) → i ≡ inside Kinds.One → Presents i s v j → IsUnclosed Kinds.One false j e → ⊥
choice_unclosed s v i j e h w q = let a = alone i j s v h w in never_unclosed e Kinds.One j a.unfailed a.kind a.complete q

-- an addition is opened
pub addition_opened : {E : Type 0} (place : Result Frame E) (x m : JsonState) (r : Result Frame EncodeError) (y : JsonState) → Stays x m → EntersFrame place m r y
    → IfOk place (λ p. p ≡ vacant_frame Kinds.One) → AdditionOpened jer_rules OpensAddition x r y
addition_opened (Ok p) x m (Ok o) y k w h =
    let within : y ≡ inside Kinds.One = w.entered.2 ∙ ap unfailed_at h in
    (record { opened = record { begun = k.begun; outer = w.entered.1 ∙ ap (λ (z : JsonState). z.place) k.same; within = within }; members = k.members }, record { begun = k.begun; within = within })
addition_opened (Err n) x m (Ok o) y k w h = absurd w.entered
addition_opened (Ok p) x m (Err e) y k w h = elim w.entered [ inl q ↦ inl q | inr q ↦ absurd (let t : true ≡ false = sym q.1 ∙ ap (λ (z : JsonState). z.failed) k.same ∙ k.begun in cc) ]
addition_opened (Err n) x m (Err e) y k w h = elim w.entered [ inl q ↦ inl q | inr q ↦ absurd (let t : true ≡ false = sym q.1 ∙ ap (λ (z : JsonState). z.failed) k.same ∙ k.begun in cc) ]

never_outside : (e : EncodeError) (x : JsonState) → x.failed ≡ false → x.place.kind ≡ Kinds.Members → IsOutside e x → ⊥
never_outside e x b m h = not_outside e x (record { unfailed = b; members = m }) h

-- an addition is closed: its value is a member
pub addition_closed : (s : Schema) (v : Value) (x i j m : JsonState) (o p : Frame) (r : Result (Unit {0}) EncodeError) (y : JsonState) → OpensAddition x o i → Presents i s v j
    → p ≡ j.place → m ≡ unfailed_at o
    → AddedSo (λ q. q ≡ with_addition m.place p.text) m r y → AdditionClosed jer_rules s (Some v) x r y
addition_closed s v x i j m o p (Ok u) y h w e f q =
    let one = alone i j s v h.opened.within w in
    let inner : p.text ≡ text_of one.json = ap (λ (z : Frame). z.text) e ∙ one.text in
    let outside : m ≡ x = f ∙ back o x h.opened.outer h.opened.begun in
    record {
      begun = h.opened.begun;
      members = h.members;
      left = q.2;
      json = one.json;
      shows = one.shows;
      added = inl (q.3 ∙ ap₂ (λ (z : JsonState) (l : List ℕ). with_addition z.place l) outside inner);
    }
addition_closed s v x i j m o p (Err e) y h w g f q =
    let outside : m ≡ x = f ∙ back o x h.opened.outer h.opened.begun in
    elim q [ inl z ↦ z | inr z ↦ absurd (never_outside e m (ap (λ (k : JsonState). k.failed) outside ∙ h.opened.begun) (ap (λ (k : JsonState). k.place.kind) outside ∙ h.members) z) ]

-- a group that holds nothing has no members
both : (a b : Bool) → (a && b) ≡ true → (a ≡ true) × (b ≡ true)
both true true e = (refl, refl)
both true false e = absurd cc
both false b e = absurd cc

there_busy : (p : Presence) (v : Value) → IsThere p v → is_idle p (Some v) ≡ true → ⊥
unfolding is_idle
there_busy p v is_required e = absurd cc
there_busy p v (is_present h) e = absurd (let t : true ≡ false = sym e ∙ written_busy p v (bit_there p v h) in cc)

idle_parts : {names : List (List ℕ)} {ps : Parts} {rs : List (Option Value)} {ns ms : Members} → ShowsParts names ps rs ns ms → are_idle ps rs ≡ true → ms ≡ ns
unfolding are_idle
idle_parts parts_end e = refl
idle_parts (part_there {p = p} {ps = ps} {v = v} {rs = rs} t h k) e = absurd (there_busy p v t (both (is_idle p (Some v)) (are_idle ps rs) e).0)
idle_parts (part_left_out {p = p} {ps = ps} {r = r} {rs = rs} b k) e = idle_parts k (both (is_idle p r) (are_idle ps rs) e).1

busy_there : (p : Presence) (v : Value) → addition_bit p (Some v) ≡ Some true → is_idle p (Some v) ≡ true → ⊥
busy_there p v h e = absurd (let t : true ≡ false = sym e ∙ written_busy p v h in cc)

idle_additions : {names : List (List ℕ)} {qs : Parts} {xs : List (Option Value)} {ms : Members} → ShowsAdditions names qs xs ms → are_idle qs xs ≡ true → ms ≡ no_members
unfolding are_idle
idle_additions additions_end e = refl
idle_additions (addition_there {p = p} {ps = ps} {v = v} {xs = xs} b h k) e = absurd (busy_there p v b (both (is_idle p (Some v)) (are_idle ps xs) e).0)
idle_additions (addition_spread {p = p} {ps = ps} {v = v} {xs = xs} b g h k) e = absurd (busy_there p v b (both (is_idle p (Some v)) (are_idle ps xs) e).0)
idle_additions (addition_left_out {p = p} {ps = ps} {x = x} {xs = xs} b k) e = idle_additions k (both (is_idle p x) (are_idle ps xs) e).1

-- a group is shown by an object
pub record GroupShown (s : Schema) (v : Value) (j : Json) : Type 0 where
  pub members : Members
  pub is_object : j ≡ object members
  pub vacant : is_vacant s v ≡ true → members ≡ no_members

pub group_shown : (s : Schema) (v : Value) (j : Json) → is_group_schema s ≡ true → Shows s v j → GroupShown s v j
unfolding is_vacant
group_shown s v j g shows_truth = absurd cc
group_shown s v j g shows_nothing = absurd cc
group_shown s v j g (shows_whole h) = absurd cc
group_shown s v j g (shows_item names h) = absurd cc
group_shown s v j g shows_octets = absurd cc
group_shown s v j g shows_any = absurd cc
group_shown s v j g (shows_bits h) = absurd cc
group_shown s v j g (shows_string {s = l} h) = absurd (no_string s v l g h)
  where
    no_string : (s : Schema) (v : Value) (l : List ℕ) → is_group_schema s ≡ true → IsString s v l → ⊥
    no_string (Schema.sequence o ps ext adds) v l g h = h
    no_string Schema.cut v l g h = h
    no_string _ v l g h = absurd cc
group_shown s v j g (shows_list h) = absurd cc
group_shown s v j g (shows_bag h) = absurd cc
group_shown s v j g (shows_record {ps = ps} {qs = qs} {rs = rs} {xs = xs} {ms = ms} {ns = ns} root added h k) = record {
  members = ms;
  is_object = refl;
  vacant = λ e. (let split = both (are_idle ps rs) (are_idle qs xs) (rw (slots-as_slots rs, slots-as_slots xs) at e) in
      idle_parts h split.0 ∙ idle_additions k split.1);
}
group_shown s v j g (shows_ordered rs xs h) = absurd cc
group_shown s v j g (shows_contents h) = absurd cc
group_shown s v j g (shows_alternative e h) = absurd cc

pub group_at : (parts additions : ℕ → Parts) (marker : Bool) (n : ℕ) → is_group_schema (record_at listed parts marker additions n) ≡ true
group_at parts additions marker zero = refl
group_at parts additions marker (suc n) = refl

-- no members change nothing
abbrev place_of : Frame → Bool → List ℕ → Frame
place_of p is_empty text = record p { is_empty = is_empty; text = text }

none_more : (p : Frame) → after_all p no_members ≡ p
none_more p = ap₂ (place_of p) (and_true p.is_empty) (append-nil p.text)
  where
    and_true : (b : Bool) → (b && true) ≡ b
    and_true true = refl
    and_true false = refl

-- a group is closed: its members are among the others
pub group_closed : (s : Schema) (v : Value) (x i j m : JsonState) (o p : Frame) (r : Result (Unit {0}) EncodeError) (y : JsonState) → is_group_schema s ≡ true → OpensAddition x o i
    → Presents i s v j → p ≡ j.place → m ≡ unfailed_at o
    → ((gs : Members) → p.text ≡ text_of (object gs) → AddedSo (λ q. q ≡ with_group m.place gs) m r y) → AdditionClosed jer_rules s (settle group s v) x r y
unfolding settle
group_closed s v x i j m o p r y g h w e f q =
    let one = alone i j s v h.opened.within w in
    let shown = group_shown s v one.json g one.shows in
    let inner : p.text ≡ text_of (object shown.members) = ap (λ (z : Frame). z.text) e ∙ one.text ∙ ap text_of shown.is_object in
    settled (is_vacant s v) refl r (q shown.members inner)
  where
    outside : m ≡ x
    outside = f ∙ back o x h.opened.outer h.opened.begun

    settled : (b : Bool) → is_vacant s v ≡ b → (r : Result (Unit {0}) EncodeError) → AddedSo (λ q. q ≡ with_group m.place (group_shown s v (alone i j s v h.opened.within w).json g (alone i j s v h.opened.within w).shows).members) m r y
        → AdditionClosed jer_rules s (if b then None else Some v) x r y
    settled true t (Ok u) k =
        let shown = group_shown s v (alone i j s v h.opened.within w).json g (alone i j s v h.opened.within w).shows in
        record {
          begun = h.opened.begun;
          members = h.members;
          moved = ap₂ state_of (k.3 ∙ ap (with_group m.place) (shown.vacant t) ∙ none_more (past_added m.place) ∙ ap (λ (z : JsonState). past_added z.place) outside) k.2;
        }
    settled false t (Ok u) k =
        let one = alone i j s v h.opened.within w in
        let shown = group_shown s v one.json g one.shows in
        record {
          begun = h.opened.begun;
          members = h.members;
          left = k.2;
          json = one.json;
          shows = one.shows;
          added = inr (shown.members, shown.is_object, k.3 ∙ ap (λ (z : JsonState). with_group z.place shown.members) outside, g);
        }
    settled true t (Err e) k = elim k [ inl z ↦ z | inr z ↦ absurd (never_outside e m (ap (λ (k : JsonState). k.failed) outside ∙ h.opened.begun) (ap (λ (k : JsonState). k.place.kind) outside ∙ h.members) z) ]
    settled false t (Err e) k = elim k [ inl z ↦ z | inr z ↦ absurd (never_outside e m (ap (λ (k : JsonState). k.failed) outside ∙ h.opened.begun) (ap (λ (k : JsonState). k.place.kind) outside ∙ h.members) z) ]
