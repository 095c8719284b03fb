-- What came in a scope of which the components are counted, and what closing it says of that (ITU-T X.691, 19, 23).
use Rattle.std.specs.Prelude.{is_some, IsErrAnd, Result, Ok, Err}
use Rattle.std.proofs.Common.{◌≡◌, refl, sym, ap, ap₂, ◌∙◌, ◌⊎◌, subst, inl, inr, ℕ, zero, suc, ◌+◌, Bool, true, false, List, [], ◌∷◌, length, length-append, Option, Some, None, arith}
use Rattle.rasn_types.specs.Values.{Side, Value}
use Rattle.rasn_schema.specs.Structures.{presence_bits, extended, tags_of}
use Rattle.rasn_schema.specs.Schemas.{count, no_parts, Parts, Schema}
use Rattle.rasn_schema.specs.declared.items.Place.{Place}
use Rattle.rasn_schema.specs.declared.items.Place.TheVariants.{Root, Added}
use Rattle.rasn_traits.specs.Calls.{Behaves}
use Rattle.rasn_traits.specs.Lists.{Mistimed}
use Rattle.rasn_traits.specs.Scopes.{PresentsFields}
use Rattle.rasn_traits.specs.Amounts.{Amount, amount_of, one_value, only_values}
use Rattle.rasn_traits.specs.Turns.{Came, came_added, came_bit, came_nothing, came_skipped, came_value, RefusesOther}
use Rattle.per_write.specs.Additions.{OutsideAddition, with_next}
use Rattle.per_write.specs.Components.{Encoding}
use Rattle.per_core.specs.Versions.{alternatives_of}
use Rattle.per_core.specs.declared.encode_error.EncodeError.{EncodeError}
use Rattle.per_write.specs.Records.{AreGiven, ClosesOrNot, kept_additions, Opens as OpensRecord}
use Rattle.per_write.specs.WriterState.{Additions, Frame, WriterState}
use Rattle.per_write.specs.Unplaced.{OutsideUnplaced}
use Rattle.per_pieces.specs.Turns.{awaits, counts, Enclosing, in_list, is_between, is_complete, marked, misplaced, next, past, Turn}
use Rattle.per_enc.specs.AlternativeCounts.{added_alternatives}
use Rattle.per_enc.specs.Choices.{OpensWhere, OutsideChoice, keeps_room}
use Rattle.per_enc.specs.Placed.{EntersPlaced}
use Rattle.per_enc.specs.PlacedChoices.{OpensPlaced, OpensPlacedIn}
use Rattle.per_enc.specs.Records.{after_marker, part_count}
use Rattle.per_enc.specs.Rules.{encoding_rules, Marks, noting, Presents}
use Rattle.per_enc.specs.Scopes.{AwaitsValues, IsUnready, OpensChoice, OpensContents, OpensOpenType, OpensScope}
use Rattle.per_enc.specs.Laws.Relations.{noting_same}
use Rattle.per_enc.proofs.Counting.{counted}
use Rattle.per_enc.proofs.NoOpenSet.{fields_inside, mark_inside, value_inside}
use Rattle.per_enc.proofs.Records.{not_failed_inside}

-- all components came that were awaited, and no more
past_all : (n : ℕ) → past n (awaits n) ≡ awaits 0
past_all zero = refl
past_all (suc n) = past_all n

pub all_came : (n : ℕ) → is_complete (counts (past n (awaits n))) ≡ true
all_came n = ap (λ (t : Turn). is_complete (counts t)) (past_all n)

past_misplaced : (k : ℕ) → past k misplaced ≡ misplaced
past_misplaced zero = refl
past_misplaced (suc k) = past_misplaced k

pub as_many : (k n : ℕ) → is_complete (counts (past k (awaits n))) ≡ true → k ≡ n
as_many zero zero e = refl
as_many zero (suc n) e = absurd cc
as_many (suc k) zero e = absurd (let d : false ≡ true = sym (ap (λ (t : Turn). is_complete (counts t)) (past_misplaced k)) ∙ e in cc)
as_many (suc k) (suc n) e = ap suc (as_many k n e)

-- as many values came in a list as were awaited
as_many_in_list : (k n : ℕ) → is_between (counts (past k (in_list n))) ≡ true → k ≡ n
as_many_in_list zero zero e = refl
as_many_in_list zero (suc n) e = absurd cc
as_many_in_list (suc k) zero e = absurd (let d : false ≡ true = sym (ap (λ (t : Turn). is_between (counts t)) (past_misplaced k)) ∙ e in cc)
as_many_in_list (suc k) (suc n) e = ap suc (as_many_in_list k n e)

-- additions of which so many more were given
abbrev pub Further : Option Additions → ℕ → Option Additions → Type 0
Further None k l = (k ≡ 0) × (l ≡ None)
Further (Some a) k None = ⊥
Further (Some a) k (Some b) = (b.count ≡ a.count) × (length b.flags ≡ length a.flags + k)

pub none_further : (o : Option Additions) → Further o 0 o
none_further None = (refl, refl)
none_further (Some a) = (refl, let e : length a.flags ≡ length a.flags + 0 = omega arith in e)

-- one was given, and then others
pub one_further : (a b : Additions) (x : Option Additions) (k : ℕ) (l : Option Additions) (flag : Bool) → x ≡ Some a → b.count ≡ a.count → length b.flags ≡ length a.flags + 1 → Further (Some b) k l → Further x (suc k) l
one_further a b x k None flag e c f h = absurd h
one_further a b x k (Some d) flag e c f h = subst (λ (o : Option Additions). Further o (suc k) (Some d)) (sym e)
    (h.0 ∙ c, let g = h.1 in let n : length d.flags ≡ length a.flags + suc k = omega arith in n)

-- what came where components are counted
pub record CameTo (a : Amount) (t : Turn) (i j : Encoding) : Type 0 where
  pub set : j.set ≡ counts (past a.components t)
  pub bits : i.writer.scope.presences.left ≡ a.bits + j.writer.scope.presences.left
  pub additions : Further i.writer.scope.additions a.additions j.writer.scope.additions
  pub left : i.writer.failed ≡ false → j.writer.failed ≡ false
  pub codec : j.writer.codec ≡ i.writer.codec

pub came_to : (a : Amount) (t : Turn) (i j : Encoding) → i.set ≡ counts t → Came encoding_rules a i j → CameTo a t i j
came_to a t i j e came_nothing = record { set = e; bits = (let z : i.writer.scope.presences.left ≡ 0 + i.writer.scope.presences.left = omega arith in z); additions = none_further i.writer.scope.additions; left = λ f. f; codec = refl }
came_to a t i j e (came_value {a = b} {s = s} {v = v} {m = m} w c) =
    let k = value_inside i m s v e w in
    let d = came_to b (next t) m j k.1 c in
    let scope : m.writer.scope ≡ i.writer.scope = k.0.beside in
    record {
      set = d.set;
      bits = ap (λ (z : Frame). z.presences.left) (sym scope) ∙ d.bits;
      additions = subst (λ (z : Frame). Further z.additions b.additions j.writer.scope.additions) scope d.additions;
      left = λ f. d.left k.0.left;
      codec = d.codec ∙ k.0.same;
    }
came_to a t i j e (came_bit {a = b} {b = true} {m = m} w c) =
    let k = mark_inside i m true e w in
    let d = came_to b t m j k.1 c in
    record {
      set = d.set;
      bits = (let f = k.0.some in let l = d.bits in let z : i.writer.scope.presences.left ≡ suc b.bits + j.writer.scope.presences.left = omega arith in z);
      additions = subst (λ (z : Option Additions). Further z b.additions j.writer.scope.additions) (ap (λ (z : WriterState). z.scope.additions) k.0.same) d.additions;
      left = λ f. d.left (ap (λ (z : WriterState). z.failed) k.0.same ∙ f);
      codec = d.codec ∙ ap (λ (z : WriterState). z.codec) k.0.same;
    }
came_to a t i j e (came_bit {a = b} {b = false} {m = m} w c) =
    let k = mark_inside i m false e w in
    let d = came_to b (next t) m j k.1 c in
    record {
      set = d.set;
      bits = (let f = k.0.some in let l = d.bits in let z : i.writer.scope.presences.left ≡ suc b.bits + j.writer.scope.presences.left = omega arith in z);
      additions = subst (λ (z : Option Additions). Further z b.additions j.writer.scope.additions) (ap (λ (z : WriterState). z.scope.additions) k.0.same) d.additions;
      left = λ f. d.left (ap (λ (z : WriterState). z.failed) k.0.same ∙ f);
      codec = d.codec ∙ ap (λ (z : WriterState). z.codec) k.0.same;
    }
came_to a t i j e (came_skipped {a = b} {m = m} w c) =
    let d = came_to b t m j (w.set ∙ e) c in
    let g = w.given in
    record {
      set = d.set;
      bits = ap (λ (z : WriterState). z.scope.presences.left) (sym g.same) ∙ d.bits;
      additions = one_further g.before (with_next g.before false g.before.opens) i.writer.scope.additions b.additions j.writer.scope.additions false g.awaits.some refl (length-append g.before.flags (false ∷ []))
          (subst (λ (z : WriterState). Further z.scope.additions b.additions j.writer.scope.additions) g.same d.additions);
      left = λ f. d.left (ap (λ (z : WriterState). z.failed) g.same ∙ f);
      codec = d.codec ∙ ap (λ (z : WriterState). z.codec) g.same;
    }
came_to a t i j e (came_added {a = b} {m = m} w c) =
    let d = came_to b t m j (w.set ∙ e) c in
    let g = w.given in
    record {
      set = d.set;
      bits = ap (λ (z : WriterState). z.scope.presences.left) (sym g.same) ∙ d.bits;
      additions = one_further g.before (with_next g.before true g.opens) i.writer.scope.additions b.additions j.writer.scope.additions true g.awaits.some refl (length-append g.before.flags (true ∷ []))
          (subst (λ (z : WriterState). Further z.scope.additions b.additions j.writer.scope.additions) g.same d.additions);
      left = λ f. d.left (ap (λ (z : WriterState). z.failed) g.same ∙ f);
      codec = d.codec ∙ ap (λ (z : WriterState). z.codec) g.same;
    }

-- where it wasn't refused before, closing what isn't complete is out of turn
pub amount_is : (a b : Amount) → a.components ≡ b.components → a.bits ≡ b.bits → a.additions ≡ b.additions → a ≡ b
amount_is a b c d e =
    ap₂ (λ (m n : ℕ). record { components = m; bits = n; additions = a.additions }) c d
    ∙ ap (λ (n : ℕ). record { components = b.components; bits = b.bits; additions = n }) e

-- how many additions were given of those that are kept where a record is opened
pub all_given : (o l : Option Additions) (k n place : ℕ) (marker : Bool) → (marker ≡ false → n ≡ 0) → o ≡ kept_additions place (after_marker marker n) → Further o k l → AreGiven l → k ≡ n
all_given o l k n place false z e h g =
    let f : Further None k l = subst (λ (q : Option Additions). Further q k l) e h in
    f.0 ∙ sym (z refl)
all_given o None k n place true z e h g = absurd (subst (λ (q : Option Additions). Further q k None) e h)
all_given o (Some b) k n place true z e h g =
    let f : (b.count ≡ n) × (length b.flags ≡ 0 + k) = subst (λ (q : Option Additions). Further q k (Some b)) e h in
    let u = f.0 in
    let v = f.1 in
    omega (arith, g)

-- X.691 19: a record in which another amount came than it takes
pub record_untimely : (ps : Parts) (marker : Bool) (qs : Parts) (x i j : Encoding) (o : Frame × Enclosing) (y : WriterState) (result : Result (Unit {0}) EncodeError) → (marker ≡ false → qs ≡ no_parts)
    → OpensScope (awaits (count ps)) (extended ps marker qs) x o i → is_complete j.set ≡ true → ClosesOrNot o.0 j.writer result y → RefusesOther encoding_rules (amount_of ps qs) i j result
record_untimely ps marker qs x i j o y (Err e) n h t c = λ a k d. elim c.err [ inl m ↦ inl m | inr u ↦ inr u.0 ]
record_untimely ps marker qs x i j o y (Ok u) n h t c = λ a k d.
    let w = came_to a (awaits (count ps)) i j h.inside k in
    let components : a.components ≡ count ps = as_many a.components (count ps) (ap is_complete (sym w.set) ∙ t) in
    let first : i.writer.scope.presences.left ≡ presence_bits ps = ap (λ z. z.left) h.opened.place in
    let last = c.ok.presences in
    let sum = w.bits in
    let bits : a.bits ≡ presence_bits ps = omega arith in
    let none : marker ≡ false → part_count qs ≡ 0 = λ f. ap part_count (n f) in
    let additions : a.additions ≡ count qs = all_given i.writer.scope.additions j.writer.scope.additions a.additions (part_count qs) _ marker none h.opened.keeps w.additions c.ok.additions ∙ sym (counted qs) in
    absurd (d (amount_is a (amount_of ps qs) components bits additions))

-- a scope of one value in which another amount came
pub one_untimely : (i j : Encoding) (result : Result (Unit {0}) EncodeError) → i.set ≡ counts (awaits 1) → i.writer.scope.presences.left ≡ 0 → i.writer.scope.additions ≡ None → is_complete j.set ≡ true → RefusesOther encoding_rules one_value i j result
one_untimely i j result e b n t = λ a k d.
    let w = came_to a (awaits 1) i j e k in
    let components : a.components ≡ 1 = as_many a.components 1 (ap is_complete (sym w.set) ∙ t) in
    let sum = w.bits in
    let bits : a.bits ≡ 0 = omega (arith, b) in
    let additions : Further None a.additions j.writer.scope.additions = subst (λ (q : Option Additions). Further q a.additions j.writer.scope.additions) n w.additions in
    absurd (d (amount_is a one_value components bits additions.0))

-- an open list or bag in which anything else came than the values that were awaited
pub values_untimely : (n : ℕ) (i j : Encoding) (result : Result (Unit {0}) EncodeError) → AwaitsValues n i → is_between j.set ≡ true → RefusesOther encoding_rules (only_values n) i j result
values_untimely n i j result w t = λ a k d.
    let c = came_to a (in_list n) i j w.turn k in
    let components : a.components ≡ n = as_many_in_list a.components n (ap is_between (sym c.set) ∙ t) in
    let sum = c.bits in
    let none = w.presences in
    let bits : a.bits ≡ 0 = omega arith in
    let additions : Further None a.additions j.writer.scope.additions = subst (λ (q : Option Additions). Further q a.additions j.writer.scope.additions) w.additions c.additions in
    absurd (d (amount_is a (only_values n) components bits additions.0))

-- what is inside a scope, and came in it, left nothing refused
pub not_failed_since : (a : Amount) (t : Turn) (i j : Encoding) → i.set ≡ counts t → i.writer.failed ≡ false → Came encoding_rules a i j → j.writer.failed ≡ true → ⊥
not_failed_since a t i j e f k g = let h = (came_to a t i j e k).left f in absurd cc

-- what isn't closed wasn't complete, or a call was refused before
pub not_unclosed : {b : Bool} (e : EncodeError) (x : Encoding) → IsUnready b e x → x.writer.failed ≡ false → b ≡ true → ⊥
not_unclosed e x (inl a) f t = let g = a.1 in absurd cc
not_unclosed e x (inr u) f t = let g = u.2 in absurd cc

pub unclosed_untimely : {r : Bool} (e : EncodeError) (i j : Encoding) (t : Turn) (due : Amount) → i.set ≡ counts t → i.writer.failed ≡ false → IsUnready r e j → RefusesOther encoding_rules due i j (Err e)
unclosed_untimely e i j t due n f (inl a) = λ b k d. absurd (not_failed_since b t i j n f k a.1)
unclosed_untimely e i j t due n f (inr u) = λ b k d. inr u.0

pub behaves_unclosed : {b : Bool} (e : EncodeError) (x y : Encoding) → IsUnready b e x → y.writer.failed ≡ true → y.writer.codec ≡ x.writer.codec
    → Behaves {T = Unit {0}} encoding_rules.already encoding_rules.failed encoding_rules.codec x (Err e) y
behaves_unclosed e x y (inl a) f k = record { again = λ q. a.0; fails = f; kept = k }
behaves_unclosed e x y (inr u) f k = record { again = λ q. let g = u.1 in absurd (let d : true ≡ false = sym q ∙ g in cc); fails = f; kept = k }

-- in a record whose components were presented nothing was refused
pub unfailed_in_record : {t : Turn} (ps : Parts) (marker : Bool) (qs : Parts) (x i j : Encoding) (rs xs : List (Option Value)) (o : Frame × Enclosing) → OpensScope t (extended ps marker qs) x o i → PresentsFields encoding_rules ps qs i rs xs j → j.writer.failed ≡ false
unfailed_in_record ps marker qs x i j rs xs o h k = is_false j.writer.failed (not_failed_inside ps marker qs (noting x).writer i.writer j.writer rs xs o.0 h.opened (fields_inside ps qs i j rs xs h.inside k).0)
  where
    is_false : (b : Bool) → (b ≡ true → ⊥) → b ≡ false
    is_false true f = absurd (f refl)
    is_false false f = refl

-- X.691 19.9: an open type is open
pub unfailed_in_addition : (x i : Encoding) (o : OutsideAddition × Enclosing) → OpensOpenType x o i → i.writer.failed ≡ false
unfailed_in_addition x i o h = ap (λ (z : WriterState). z.failed) h.opened.same ∙ h.opened.awaits.begun

pub addition_untimely : (x i j : Encoding) (o : OutsideAddition × Enclosing) (result : Result (Unit {0}) EncodeError) → OpensOpenType x o i → is_complete j.set ≡ true → RefusesOther encoding_rules one_value i j result
addition_untimely x i j o result h t = one_untimely i j result h.inside (ap (λ (z : WriterState). z.scope.presences.left) h.opened.same) (ap (λ (z : WriterState). z.scope.additions) h.opened.same) t

-- where one value is to come no presence bit and no addition is due
pub record OneOpened (i : Encoding) : Type 0 where
  pub unfailed : i.writer.failed ≡ false
  pub presences : i.writer.scope.presences.left ≡ 0
  pub additions : i.writer.scope.additions ≡ None

opened_well_at : (kept marker : Bool) (n : ℕ) (x : WriterState) (o : OutsideChoice) (i : Encoding) → OpensWhere kept marker n x o i.writer → OneOpened i
opened_well_at true marker n x o i h = record { unfailed = h.opened.unfailed; presences = ap (λ (z : Frame). z.presences.left) h.opened.place; additions = ap (λ (z : Frame). z.additions) h.opened.place }
opened_well_at false marker n x o i h = record { unfailed = ap (λ (z : WriterState). z.failed) h.same ∙ h.begun; presences = ap (λ (z : WriterState). z.scope.presences.left) h.same; additions = ap (λ (z : WriterState). z.scope.additions) h.same }

pub choice_opened_well : (s : Schema) (x i : Encoding) (o : OutsideChoice × Enclosing) → OpensChoice s x o i → OneOpened i
choice_opened_well s x i o h = let n = length (tags_of (alternatives_of s)) in opened_well_at (keeps_room n (added_alternatives s)) (is_some (added_alternatives s)) n (noting x).writer o.0 i h.opened

-- the same of one whose alternative is known
entered_well : (p : Place) (x : WriterState) (o : OutsideChoice) (i : Encoding) → x.failed ≡ false → EntersPlaced p x o i.writer → OneOpened i
entered_well (Root k) x o i f h = record { unfailed = ap (λ (z : WriterState). z.failed) h.same ∙ f; presences = ap (λ (z : WriterState). z.scope.presences.left) h.same; additions = ap (λ (z : WriterState). z.scope.additions) h.same }
entered_well (Added k) x o i f h = record { unfailed = ap (λ (z : WriterState). z.failed) h.same ∙ f; presences = ap (λ (z : WriterState). z.scope.presences.left) h.same; additions = ap (λ (z : WriterState). z.scope.additions) h.same }

pub placed_opened_well : (c : Schema) (d : Side) (k : ℕ) (x i : Encoding) (o : OutsideChoice × Enclosing) → OpensPlaced c d k x o i → OneOpened i
placed_opened_well c d k x i o h = let w = h.opened.opened in entered_well h.opened.place w.front o.0 i w.written.left w.enters

-- X.691 11.2: octets that are to contain a value are open
pub contents_opened_well : (x i : Encoding) (o : OutsideUnplaced × Enclosing) → OpensContents x o i → OneOpened i
contents_opened_well x i o h = record { unfailed = ap (λ (z : WriterState). z.failed) h.opened.same ∙ h.opened.begun; presences = ap (λ (z : WriterState). z.scope.presences.left) h.opened.same; additions = ap (λ (z : WriterState). z.scope.additions) h.opened.same }
