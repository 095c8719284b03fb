-- What components write, one after another, in the scope of a record, shows them.
use Rattle.std.proofs.Common.{◌≡◌, ◌&&◌, Bool, true, false, List, [], ◌∷◌, ◌++◌, ◌+◌, drop, length, arith, Option, Some, refl, sym, ap, ◌∙◌, subst, append_assoc, append-nil, inl, inr, ℕ}
use Rattle.rasn_types.specs.Values.{Value}
use Rattle.rasn_schema.specs.Structures.{record_value}
use Rattle.rasn_schema.specs.Schemas.{count, Order, Presence, Schema, Parts, no_parts, part, TagTree}
use Rattle.rasn_traits.specs.Additions.{PresentsAddition, presents_added, presents_skipped, PresentsAdditions, presents_no_more, presents_further}
use Rattle.rasn_traits.specs.Scopes.{PresentsPart, presents_required, presents_there, presents_left_out, PresentsParts, presents_end, presents_next, PresentsFields, presents_fields}
use Rattle.json.specs.Json.{Json, object, Members, no_members, member}
use Rattle.rasn_jer.proofs.Refusing.{addition_inside, Inside, part_inside}
use Rattle.rasn_jer.specs.Names.{next_name}
use Rattle.rasn_jer.specs.Frames.{behind, after_all, named_frame, past_added, past_root, Frame, JsonState, Takes, unfailed_at, with_value}
use Rattle.rasn_jer.specs.Rules.{jer_rules, Marks, Presents}
use Rattle.rasn_jer.specs.Shown.{addition_left_out, addition_spread, addition_there, additions_end, is_present, is_required, IsThere, part_left_out, part_there, parts_end, Shows, shows_record, ShowsAdditions, ShowsParts}
use Rattle.rasn_jer.specs.Texts.{comma, is_none, join, member_text, members_text, text_of}
use Rattle.rasn_jer.specs.declared.frame.Due.{Due}
use Rattle.rasn_jer.specs.declared.frame.Kind.{Kind}
use Rattle.rasn_jer.specs.declared.frame.Kind.TheVariants as Kinds

-- the text of a place after which members follow
abbrev pub with_members : Frame → Members → List ℕ
with_members p ms = p.text ++ members_text p.is_empty ms

-- three texts after one
assoc3 : (a b c d : List ℕ) → a ++ (b ++ (c ++ d)) ≡ (a ++ (b ++ c)) ++ d
assoc3 a b c d = ap (λ (l : List ℕ). a ++ l) (sym (append_assoc b c d)) ∙ sym (append_assoc a (b ++ c) d)

-- one more member
one_more : (p q : Frame) (name : List ℕ) (j : Json) (ms : Members) → q ≡ behind p (member_text name (text_of j)) → with_members p (member name j ms) ≡ with_members q ms
one_more p q name j ms e = assoc3 p.text (comma p.is_empty) (member_text name (text_of j)) (members_text false ms) ∙ ap (λ (r : Frame). with_members r ms) (sym e)

join_text : (first : Bool) (gs ms : Members) → members_text first (join gs ms) ≡ members_text first gs ++ members_text (first && is_none gs) ms
join_text true no_members ms = refl
join_text false no_members ms = refl
join_text true (member name j gs) ms = ap (λ (l : List ℕ). member_text name (text_of j) ++ l) (join_text false gs ms) ∙ sym (append_assoc (member_text name (text_of j)) (members_text false gs) _)
join_text false (member name j gs) ms = ap (λ (l : List ℕ). 44 ∷ (member_text name (text_of j) ++ l)) (join_text false gs ms) ∙ ap (λ (l : List ℕ). 44 ∷ l) (sym (append_assoc (member_text name (text_of j)) (members_text false gs) _))

-- the members of a group
all_more : (p q : Frame) (gs ms : Members) → q ≡ after_all p gs → with_members p (join gs ms) ≡ with_members q ms
all_more p q gs ms e = ap (λ (l : List ℕ). p.text ++ l) (join_text p.is_empty gs ms) ∙ sym (append_assoc p.text (members_text p.is_empty gs) _) ∙ ap (λ (r : Frame). with_members r ms) (sym e)

-- a value that is presented inside a record is after the next name
named : (p : Frame) (text : List ℕ) (q : Frame) → p.kind ≡ Kinds.Members → Takes p text q → q ≡ behind (past_root p) (member_text (next_name p.root) text)
named p text q m h = subst (λ (k : Kind). q ≡ with_value k p text) m h.written

-- a list of so many has a first
split : (names : List (List ℕ)) (k : ℕ) → length names ≡ 1 + k → (next_name names ∷ drop 1 names ≡ names) × (length (drop 1 names) ≡ k)
split [] k e = absurd (omega (arith, e))
split (name ∷ names) k e = (refl, omega (arith, e))

none_left : (names : List (List ℕ)) → length names ≡ 0 → [] ≡ names
none_left [] e = refl
none_left (name ∷ names) e = absurd (omega (arith, e))

-- what a component writes shows it by the next name, in front of what shows the others
record PartShown (x y : JsonState) (t : TagTree) (p : Presence) (s : Schema) (r : Option Value) : Type 0 where
  moved : y.place.root ≡ drop 1 x.place.root
  kept : y.place.added ≡ x.place.added
  shown : (names : List (List ℕ)) (ps : Parts) (rs : List (Option Value)) (ns ms : Members) → ShowsParts names ps rs ns ms
      → (all : Members) × ShowsParts (next_name x.place.root ∷ names) (part t p s ps) (r ∷ rs) ns all × (with_members x.place all ≡ with_members y.place ms)

valued : (x y : JsonState) (t : TagTree) (p : Presence) (s : Schema) (v : Value) → x.place.kind ≡ Kinds.Members → IsThere p v → Presents x s v y → PartShown x y t p s (Some v)
valued x y t p s v m there w =
    let n = named x.place (text_of w.json) y.place m w.taken in
    record {
      moved = ap (λ (q : Frame). q.root) n;
      kept = ap (λ (q : Frame). q.added) n;
      shown = λ names ps rs ns ms k. (
        member (next_name x.place.root) w.json ms,
        part_there there w.shows k,
        one_more (past_root x.place) y.place (next_name x.place.root) w.json ms n,
      );
    }

part_shown : {p : Presence} {s : Schema} {x y : JsonState} {r : Option Value} (t : TagTree) → Inside x → PresentsPart jer_rules p s x r y → PartShown x y t p s r
part_shown {x = x} {y = y} t h (presents_required w) = valued x y t _ _ _ h.members is_required w
part_shown {p = p} {s = s} {x = x} {y = y} t h (presents_there {m = m} {v = v} b k w) =
    let one = subst (λ (z : JsonState). PartShown z y t p s (Some v)) k.moved (valued m y t p s v (ap (λ (z : JsonState). z.place.kind) k.moved ∙ h.members) (is_present b) w) in
    record { moved = one.moved; kept = one.kept; shown = one.shown }
part_shown {x = x} {y = y} t h (presents_left_out b k) =
    record {
      moved = ap (λ (z : JsonState). z.place.root) k.moved;
      kept = ap (λ (z : JsonState). z.place.added) k.moved;
      shown = λ names ps rs ns ms q. (ms, part_left_out b q, ap (λ (z : JsonState). with_members z.place ms) (sym k.moved));
    }

-- components in turn
record PartsShown (x y : JsonState) (ps : Parts) (rs : List (Option Value)) : Type 0 where
  within : Inside y
  kept : y.place.added ≡ x.place.added
  shown : (ns : Members) → (ms : Members) × ShowsParts x.place.root ps rs ns ms × (with_members x.place ms ≡ with_members y.place ns)

by_names : {before after : List (List ℕ)} {ps : Parts} {rs : List (Option Value)} {ns ms : Members} → before ≡ after → ShowsParts before ps rs ns ms → ShowsParts after ps rs ns ms
by_names {ps = ps} {rs = rs} {ns = ns} {ms = ms} e k = subst (λ (names : List (List ℕ)). ShowsParts names ps rs ns ms) e k

parts_shown : {ps : Parts} {x y : JsonState} {rs : List (Option Value)} → Inside x → length x.place.root ≡ count ps → PresentsParts jer_rules ps x rs y → PartsShown x y ps rs
parts_shown {x = x} h c presents_end = record { within = h; kept = refl; shown = λ ns. (ns, by_names (none_left x.place.root c) parts_end, refl) }
parts_shown {x = x} h c (presents_next {t = t} {ps = ps} {m = m} {rs = rs} p q) =
    let one = part_shown t h p in
    let left = split x.place.root (count ps) c in
    let more = parts_shown (part_inside h p) (ap (λ (l : List (List ℕ)). length l) one.moved ∙ left.1) q in
    record {
      within = more.within;
      kept = more.kept ∙ one.kept;
      shown = λ ns. (let n = more.shown ns in let o = one.shown m.place.root ps rs ns n.0 n.1 in
          (o.0, by_names (ap (λ (l : List (List ℕ)). next_name x.place.root ∷ l) one.moved ∙ left.0) o.1, o.2 ∙ n.2));
    }

-- additions in turn
record AdditionsShown (x y : JsonState) (qs : Parts) (xs : List (Option Value)) : Type 0 where
  within : Inside y
  members : Members
  shown : ShowsAdditions x.place.added qs xs members
  written : with_members x.place members ≡ with_members y.place no_members

-- one addition, whatever gives it, takes the next name
named_further : (x m : JsonState) {qs : Parts} {xs : List (Option Value)} {ms : Members} (k : ℕ) → length x.place.added ≡ 1 + k → m.place.added ≡ drop 1 x.place.added
    → ShowsAdditions (next_name x.place.added ∷ m.place.added) qs xs ms → ShowsAdditions x.place.added qs xs ms
named_further x m {qs = qs} {xs = xs} {ms = ms} k c e h = subst (λ (names : List (List ℕ)). ShowsAdditions names qs xs ms)
    (ap (λ (l : List (List ℕ)). next_name x.place.added ∷ l) e ∙ (split x.place.added k c).0) h

addition_moved : {p : Presence} {s : Schema} {x y : JsonState} {r : Option Value} → PresentsAddition jer_rules p s x r y → y.place.added ≡ drop 1 x.place.added
addition_moved (presents_added b w) = elim w.added [ inl n ↦ ap (λ (q : Frame). q.added) n | inr n ↦ ap (λ (q : Frame). q.added) n.2 ]
addition_moved (presents_skipped b q) = ap (λ (z : JsonState). z.place.added) q.moved

one_addition : {p : Presence} {s : Schema} {x y z : JsonState} {r : Option Value} {ps : Parts} {xs : List (Option Value)} (t : TagTree) → length x.place.added ≡ 1 + count ps
    → y.place.added ≡ drop 1 x.place.added → PresentsAddition jer_rules p s x r y → AdditionsShown y z ps xs → AdditionsShown x z (part t p s ps) (r ∷ xs)
one_addition {s = s} {x = x} {y = y} {ps = ps} t c e (presents_added {v = v} b w) k = elim w.added [
  | inl n ↦ record {
    within = k.within;
    members = member (next_name x.place.added) w.json k.members;
    shown = named_further x y (count ps) c e (addition_there b w.shows k.shown);
    written = one_more (past_added x.place) y.place (next_name x.place.added) w.json k.members n ∙ k.written;
  }
  | inr n ↦ record {
    within = k.within;
    members = join n.0 k.members;
    shown = named_further x y (count ps) c e (addition_spread b n.3 (subst (λ (j : Json). Shows s v j) n.1 w.shows) k.shown);
    written = all_more (past_added x.place) y.place n.0 k.members n.2 ∙ k.written;
  }
]
one_addition {x = x} {y = y} {ps = ps} t c e (presents_skipped b q) k = record {
  within = k.within;
  members = k.members;
  shown = named_further x y (count ps) c e (addition_left_out b k.shown);
  written = ap (λ (z : JsonState). with_members z.place k.members) (sym q.moved) ∙ k.written;
}

additions_shown : {qs : Parts} {x y : JsonState} {xs : List (Option Value)} → Inside x → length x.place.added ≡ count qs → PresentsAdditions jer_rules qs x xs y → AdditionsShown x y qs xs
additions_shown {x = x} h c presents_no_more = record {
  within = h;
  members = no_members;
  shown = subst (λ (names : List (List ℕ)). ShowsAdditions names no_parts [] no_members) (none_left x.place.added c) additions_end;
  written = refl;
}
additions_shown {x = x} h c (presents_further {t = t} {ps = ps} p q) =
    let e = addition_moved p in
    one_addition t c e p (additions_shown (addition_inside h p) (ap (λ (l : List (List ℕ)). length l) e ∙ (split x.place.added (count ps) c).1) q)

-- what is in the scope of a record shows it
pub record RecordShown (order : Order) (ps : Parts) (marker : Bool) (qs : Parts) (rs xs : List (Option Value)) (j : JsonState) : Type 0 where
  pub within : Inside j
  pub members : Members
  pub shown : Shows (Schema.sequence order ps marker qs) (record_value rs xs) (object members)
  pub written : j.place.text ≡ members_text true members

pub record_shown : (order : Order) (marker : Bool) {ps qs : Parts} {rs xs : List (Option Value)} {i j : JsonState} {root added : List (List ℕ)} {due : Due} → length root ≡ count ps → length added ≡ count qs
    → i ≡ unfailed_at (named_frame Kinds.Members root added due) → PresentsFields jer_rules ps qs i rs xs j → RecordShown order ps marker qs rs xs j
record_shown order marker {i = i} {j = j} c d e (presents_fields p q) =
    let h : Inside i = record { unfailed = ap (λ (z : JsonState). z.failed) e; members = ap (λ (z : JsonState). z.place.kind) e } in
    let root = parts_shown h (ap (λ (z : JsonState). length z.place.root) e ∙ c) p in
    let after_it = additions_shown root.within (ap (λ (l : List (List ℕ)). length l) root.kept ∙ ap (λ (z : JsonState). length z.place.added) e ∙ d) q in
    let all = root.shown after_it.members in
    record {
      within = after_it.within;
      members = all.0;
      shown = shows_record _ _ all.1 after_it.shown;
      written = sym (ap (λ (z : JsonState). with_members z.place all.0) (sym e) ∙ all.2 ∙ after_it.written ∙ append-nil j.place.text);
    }
