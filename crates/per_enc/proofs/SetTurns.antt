-- What came in a SET whose components are gathered, and what closing it says of that (ITU-T X.691, 21.1).
use Rattle.std.specs.Prelude.{Result, Ok, Err, if◌then◌else◌, is_some, is_none, not}
use Rattle.std.proofs.Common.{◌≡◌, refl, sym, ap, ◌∙◌, ◌⊎◌, ◌&&◌, subst, inl, inr, ℕ, zero, suc, ◌+◌, Bool, true, false, List, [], ◌∷◌, ◌++◌, length, length-append, Option, Some, None, arith}
use Rattle.rasn_schema.specs.Fields.{is_not_required, presence_of, Shape, shapes_from}
use Rattle.rasn_schema.specs.Structures.{has_bit, presence_bits}
use Rattle.rasn_schema.specs.Schemas.{count, default, group, no_parts, optional, part, Parts, Presence, required}
use Rattle.rasn_traits.specs.Amounts.{Amount, amount_of}
use Rattle.rasn_traits.specs.Turns.{Came, came_added, came_bit, came_nothing, came_skipped, came_value, RefusesOther}
use Rattle.per_pieces.proofs.Presented.{closed_as, closed_count}
use Rattle.per_pieces.specs.OpenSets.{are_of, begins, begins_value, begins_value_where, begins_where, closed, Component, components, opened, OpenSet, says_present, Underway, under_way, with_begun}
use Rattle.per_pieces.specs.Pieces.{Pieces}
use Rattle.per_pieces.specs.Turns.{Enclosing, gathers}
use Rattle.per_write.specs.Additions.{with_next}
use Rattle.per_write.specs.Components.{begun_with, Encoding, going_on, noted, PutsInOrder, underway}
use Rattle.per_core.specs.declared.encode_error.EncodeError.{EncodeError}
use Rattle.per_write.specs.Records.{AreGiven, ClosesOrNot, kept_additions}
use Rattle.per_write.specs.WriterState.{Additions, Frame, WriterState}
use Rattle.per_enc.specs.Records.{after_marker, part_count}
use Rattle.per_enc.specs.Rules.{encoding_rules, MarksWhere, noting}
use Rattle.per_enc.specs.Scopes.{OpensSet}
use Rattle.per_enc.proofs.Counting.{counted}
use Rattle.per_enc.proofs.Turns.{all_given, amount_is, Further, none_further, one_further}

abbrev pub one_if : Bool → ℕ
one_if true = 1
one_if false = 0

-- how many components have a presence bit
abbrev pub with_bits : List Component → ℕ
with_bits [] = 0
with_bits (c ∷ cs) = one_if (is_some c.bit) + with_bits cs

abbrev pub begun_bit : Option (Option Bool) → ℕ
begun_bit None = 0
begun_bit (Some b) = one_if (is_some b)

-- how many components were begun, and how many of them with a presence bit
abbrev pub begun : OpenSet → ℕ
begun s = length s.done + under_way s.begun

abbrev pub bitted : OpenSet → ℕ
bitted s = with_bits s.done + begun_bit s.begun

with_bits-append : (cs : List Component) (c : Component) → with_bits (cs ++ c ∷ []) ≡ with_bits cs + one_if (is_some c.bit)
with_bits-append [] c = omega arith
with_bits-append (d ∷ cs) c = let n = with_bits-append cs c in omega arith

all_begun : (cs : List Component) (b : Option (Option Bool)) (p : Pieces) → length (with_begun cs b p) ≡ length cs + under_way b
all_begun cs None p = omega arith
all_begun cs (Some b) p = length-append cs (record { bit = b; value = p } ∷ [])

all_bits : (cs : List Component) (b : Option (Option Bool)) (p : Pieces) → with_bits (with_begun cs b p) ≡ with_bits cs + begun_bit b
all_bits cs None p = omega arith
all_bits cs (Some b) p = with_bits-append cs (record { bit = b; value = p })

-- So many components and presence bits came, each in turn.
pub record GatheredTo (k l : ℕ) (s t : OpenSet) : Type 0 where
  pub in_turn : t.misplaced ≡ false → s.misplaced ≡ false
  pub many : t.misplaced ≡ false → begun t + one_if s.awaits ≡ begun s + (k + one_if t.awaits)
  pub marks : t.misplaced ≡ false → bitted t ≡ bitted s + l

none_gathered : (s : OpenSet) → GatheredTo 0 0 s s
none_gathered s = record { in_turn = λ f. f; many = λ f. omega arith; marks = λ f. omega arith }

gathered_then : {k l m n p q : ℕ} {s t u : OpenSet} → k + m ≡ p → l + n ≡ q → GatheredTo k l s t → GatheredTo m n t u → GatheredTo p q s u
gathered_then e f a b = record {
  in_turn = λ g. a.in_turn (b.in_turn g);
  many = λ g. (let x = a.many (b.in_turn g) in let y = b.many g in omega arith);
  marks = λ g. (let x = a.marks (b.in_turn g) in let y = b.marks g in omega arith);
}

-- a component comes as it begins, unless its presence bit says that its value follows
abbrev comes : Option Bool → ℕ
comes None = 1
comes (Some true) = 0
comes (Some false) = 1

comes_or_follows : (b : Option Bool) → comes b + one_if (says_present b) ≡ 1
comes_or_follows None = refl
comes_or_follows (Some true) = refl
comes_or_follows (Some false) = refl

begins_gathered : (bit : Option Bool) (a : Bool) (n : ℕ) (s : OpenSet) (p : Pieces) → s.awaits ≡ a → GatheredTo (comes bit) (one_if (is_some bit)) s (begins_where a n bit (record { set = s; pieces = p })).set
begins_gathered bit true n s p e = record { in_turn = λ f. absurd cc; many = λ f. absurd cc; marks = λ f. absurd cc }
begins_gathered bit false zero s p e = record { in_turn = λ f. absurd cc; many = λ f. absurd cc; marks = λ f. absurd cc }
begins_gathered bit false (suc n) s p e = record {
  in_turn = λ f. f;
  many = λ f. (let c = comes_or_follows bit in let l = all_begun s.done s.begun p in let w : one_if s.awaits ≡ 0 = ap one_if e in omega arith);
  marks = λ f. (let l = all_bits s.done s.begun p in omega arith);
}

value_gathered : (a : Bool) (s : OpenSet) (p : Pieces) → s.awaits ≡ a → GatheredTo 1 0 s (begins_value_where a (record { set = s; pieces = p })).set
value_gathered true s p e = record {
  in_turn = λ f. f;
  many = λ f. (let w : one_if s.awaits ≡ 1 = ap one_if e in omega arith);
  marks = λ f. omega arith;
}
value_gathered false s p e = begins_gathered None s.awaits s.room s p refl

-- what came where components are gathered
pub record CameIn (a : Amount) (s : OpenSet) (i j : Encoding) : Type 0 where
  pub set : OpenSet
  pub is_set : j.set ≡ gathers set
  pub gathered : GatheredTo a.components a.bits s set
  pub additions : Further i.writer.scope.additions a.additions j.writer.scope.additions
  pub left : i.writer.failed ≡ false → j.writer.failed ≡ false

pub came_in : (a : Amount) (s : OpenSet) (i j : Encoding) → i.set ≡ gathers s → Came encoding_rules a i j → CameIn a s i j
came_in a s i j e came_nothing = record { set = s; is_set = e; gathered = none_gathered s; additions = none_further i.writer.scope.additions; left = λ f. f }
came_in a s i j e (came_value {a = b} {m = m} w c) =
    let u = begins_value (underway s i.writer) in
    let n : noting i ≡ going_on u i.writer = ap (λ (z : Enclosing). noted z i.writer) e in
    let d = came_in b u.set m j (w.set ∙ ap (λ (z : Encoding). z.set) n) c in
    let scope : m.writer.scope ≡ i.writer.scope = w.written.beside ∙ ap (λ (z : Encoding). z.writer.scope) n in
    record {
      set = d.set;
      is_set = d.is_set;
      gathered = gathered_then (let n : 1 + b.components ≡ suc b.components = omega arith in n) (let n : 0 + b.bits ≡ b.bits = omega arith in n) (value_gathered s.awaits s i.writer.pieces refl) d.gathered;
      additions = subst (λ (z : Frame). Further z.additions b.additions j.writer.scope.additions) scope d.additions;
      left = λ f. d.left w.written.left;
    }
came_in a s i j e (came_bit {a = b} {b = true} {m = m} w c) =
    let h : (i.writer.failed ≡ false) × (m ≡ begun_with true s i.writer) = subst (λ (o : Enclosing). MarksWhere o i.writer true m) e w in
    let d = came_in b (begins (Some true) (underway s i.writer)).set m j (ap (λ (z : Encoding). z.set) h.1) c in
    record {
      set = d.set;
      is_set = d.is_set;
      gathered = gathered_then (let n : 0 + b.components ≡ b.components = omega arith in n) (let n : 1 + b.bits ≡ suc b.bits = omega arith in n) (begins_gathered (Some true) s.awaits s.room s i.writer.pieces refl) d.gathered;
      additions = subst (λ (z : Frame). Further z.additions b.additions j.writer.scope.additions) (ap (λ (z : Encoding). z.writer.scope) h.1) d.additions;
      left = λ f. d.left (ap (λ (z : Encoding). z.writer.failed) h.1 ∙ f);
    }
came_in a s i j e (came_bit {a = b} {b = false} {m = m} w c) =
    let h : (i.writer.failed ≡ false) × (m ≡ begun_with false s i.writer) = subst (λ (o : Enclosing). MarksWhere o i.writer false m) e w in
    let d = came_in b (begins (Some false) (underway s i.writer)).set m j (ap (λ (z : Encoding). z.set) h.1) c in
    record {
      set = d.set;
      is_set = d.is_set;
      gathered = gathered_then (let n : 1 + b.components ≡ suc b.components = omega arith in n) (let n : 1 + b.bits ≡ suc b.bits = omega arith in n) (begins_gathered (Some false) s.awaits s.room s i.writer.pieces refl) d.gathered;
      additions = subst (λ (z : Frame). Further z.additions b.additions j.writer.scope.additions) (ap (λ (z : Encoding). z.writer.scope) h.1) d.additions;
      left = λ f. d.left (ap (λ (z : Encoding). z.writer.failed) h.1 ∙ f);
    }
came_in a s i j e (came_skipped {a = b} {m = m} w c) =
    let d = came_in b s m j (w.set ∙ e) c in
    let g = w.given in
    record {
      set = d.set;
      is_set = d.is_set;
      gathered = d.gathered;
      additions = one_further g.before (with_next g.before false g.before.opens) i.writer.scope.additions b.additions j.writer.scope.additions false g.awaits.some refl (length-append g.before.flags (false ∷ []))
          (subst (λ (z : WriterState). Further z.scope.additions b.additions j.writer.scope.additions) g.same d.additions);
      left = λ f. d.left (ap (λ (z : WriterState). z.failed) g.same ∙ f);
    }
came_in a s i j e (came_added {a = b} {m = m} w c) =
    let d = came_in b s m j (w.set ∙ e) c in
    let g = w.given in
    record {
      set = d.set;
      is_set = d.is_set;
      gathered = d.gathered;
      additions = one_further g.before (with_next g.before true g.opens) i.writer.scope.additions b.additions j.writer.scope.additions true g.awaits.some refl (length-append g.before.flags (true ∷ []))
          (subst (λ (z : WriterState). Further z.scope.additions b.additions j.writer.scope.additions) g.same d.additions);
      left = λ f. d.left (ap (λ (z : WriterState). z.failed) g.same ∙ f);
    }

-- a SET that is closed awaits nothing, and nothing came out of turn
closed_in_turn : (fs : List Shape) (u : Underway) (cs : List Component) → closed fs u ≡ Some cs → (u.set.misplaced ≡ false) × (u.set.awaits ≡ false)
closed_in_turn fs u cs e = go u.set.misplaced u.set.awaits (are_of fs (components u)) refl refl e
  where
    go : (m a b : Bool) → u.set.misplaced ≡ m → u.set.awaits ≡ a → (if not m && (not a && b) then Some (components u) else None) ≡ Some cs → (u.set.misplaced ≡ false) × (u.set.awaits ≡ false)
    go false false true f g h = (f, g)
    go true a b f g h = absurd (let k : None ≡ Some cs = h in cc)
    go false true b f g h = absurd (let k : None ≡ Some cs = h in cc)
    go false false false f g h = absurd (let k : None ≡ Some cs = h in cc)

-- as many of its components have a presence bit as may be absent
fits : (q : Presence) (b : Option Bool) → (if is_not_required (presence_of q) then is_some b else is_none b) ≡ true → one_if (is_some b) ≡ has_bit q
fits required None e = refl
fits required (Some b) e = absurd cc
fits optional None e = absurd cc
fits optional (Some b) e = refl
fits group None e = absurd cc
fits group (Some b) e = refl
fits (default d) None e = absurd cc
fits (default d) (Some b) e = refl

both : (b c : Bool) → (b && c) ≡ true → (b ≡ true) × (c ≡ true)
both true c h = (refl, h)
both false c h = absurd cc

bits_fit : (i : ℕ) (ps : Parts) (cs : List Component) → are_of (shapes_from i ps) cs ≡ true → with_bits cs ≡ presence_bits ps
bits_fit i no_parts [] e = refl
bits_fit i no_parts (c ∷ cs) e = absurd cc
bits_fit i (part t q s ps) [] e = absurd cc
bits_fit i (part t q s ps) (c ∷ cs) e =
    let h = both _ (are_of (shapes_from (suc i) ps) cs) e in
    let f = fits q c.bit h.0 in
    let n = bits_fit (suc i) ps cs h.1 in
    omega arith

same_set : {s t : OpenSet} → gathers s ≡ gathers t → s ≡ t
same_set e = cc

module _ (ps : Parts) (marker : Bool) (qs : Parts) (x i j : Encoding) (o : Frame × Enclosing) (h : OpensSet (count ps) (after_marker marker (part_count qs)) x o i) where
  -- what came in a SET that was opened
  came : (a : Amount) → Came encoding_rules a i j → CameIn a (opened (count ps) h.front.pieces).set i j
  came a k = came_in a (opened (count ps) h.front.pieces).set i j (ap (λ (z : Encoding). z.set) h.inside) k

  -- it is still open, and left nothing refused
  pub open_since : (a : Amount) → Came encoding_rules a i j → (t : OpenSet) × (j.set ≡ gathers t) × (j.writer.failed ≡ false)
  open_since a k = let w = came a k in (w.set, w.is_set, w.left (ap (λ (z : Encoding). z.writer.failed) h.inside ∙ h.marked.unfailed))

  -- X.691 21.1: a SET in which another amount came than it takes
  pub set_untimely : (fields : List Shape) (set : OpenSet) (m y : WriterState) (result : Result (Unit {0}) EncodeError) → (marker ≡ false → qs ≡ no_parts) → fields ≡ shapes_from 0 ps → j.set ≡ gathers set
      → PutsInOrder fields set j.writer m → ClosesOrNot o.0 m result y → RefusesOther encoding_rules (amount_of ps qs) i j result
  set_untimely fields set m y (Err e) n f s p c = λ a k d. elim c.err [
    | inl u ↦ inl (record { kind_is = u.kind_is; codec_is = u.codec_is ∙ ap (λ (z : WriterState). z.codec) p.same })
    | inr u ↦ inr (record { kind_is = u.0.kind_is; codec_is = u.0.codec_is ∙ ap (λ (z : WriterState). z.codec) p.same })
  ]
  set_untimely fields set m y (Ok u) n f s p c = λ a k d.
      let w = came a k in
      let t : w.set ≡ set = same_set (sym w.is_set ∙ s) in
      let r = closed_in_turn fields (underway set j.writer) p.components p.closed in
      let turn : w.set.misplaced ≡ false = ap (λ (z : OpenSet). z.misplaced) t ∙ r.0 in
      let still : one_if w.set.awaits ≡ 0 = ap (λ (z : OpenSet). one_if z.awaits) t ∙ ap one_if r.1 in
      let are = closed_as fields (underway set j.writer) p.components p.closed in
      let many : begun w.set ≡ count ps = ap begun t ∙ sym (all_begun set.done set.begun j.writer.pieces) ∙ sym (ap length are.0) ∙ closed_count fields (underway set j.writer) p.components ps p.closed f in
      let marks : bitted w.set ≡ presence_bits ps = ap bitted t ∙ sym (all_bits set.done set.begun j.writer.pieces) ∙ sym (ap with_bits are.0)
      ∙ bits_fit 0 ps p.components (ap (λ (fs : List Shape). are_of fs p.components) (sym f) ∙ are.1) in
      let all : a.components ≡ count ps = (let q = w.gathered.many turn in omega arith) in
      let bits : a.bits ≡ presence_bits ps = (let q = w.gathered.marks turn in omega arith) in
      let none : marker ≡ false → part_count qs ≡ 0 = λ g. ap part_count (n g) in
      let keeps : i.writer.scope.additions ≡ h.front.scope.additions = ap (λ (z : Encoding). z.writer.scope.additions) h.inside in
      let given : AreGiven j.writer.scope.additions = subst (λ (z : WriterState). AreGiven z.scope.additions) p.same c.ok.additions in
      let additions : a.additions ≡ count qs = all_given i.writer.scope.additions j.writer.scope.additions a.additions (part_count qs) _ marker none (keeps ∙ h.marked.keeps) w.additions given ∙ sym (counted qs) in
      absurd (d (amount_is a (amount_of ps qs) all bits additions))
