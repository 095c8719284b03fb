-- The laws of a decoder that counts what comes in a scope: they are those of one that counts nothing, as what is still
-- to come has no part in what is read, and all came that is due where a record's components were read as they are
-- listed.
use Rattle.std.proofs.Common.{◌≡◌, ◌∙◌, inl, inr, refl, sym, ap, subst, arith, ℕ, zero, suc, ◌+◌, Bool, true}
use Rattle.std.proofs.Common.{false, [], length, List, Option, Some, None}
use Rattle.rasn_types.specs.Values.{Value}
use Rattle.rasn_schema.specs.Schemas.{Presence, Schema, Parts, count, part}
use Rattle.rasn_traits.specs.AdditionsRead.{FaultyAddition, FaultyAdditions, ReadsAddition}
use Rattle.rasn_traits.specs.AdditionsRead.{ReadsAdditions, faulty_added, faulty_addition, faulty_further}
use Rattle.rasn_traits.specs.AdditionsRead.{faulty_lacking, reads_added, reads_further, reads_lacking, reads_no_more}
use Rattle.rasn_traits.specs.Amounts.{Amount, one_value, only_values}
use Rattle.rasn_traits.specs.Scopes.{FaultyFields, FaultyPart, FaultyParts, ReadsFields, ReadsPart, ReadsParts}
use Rattle.rasn_traits.specs.Scopes.{faulty_after, faulty_after_root, faulty_bit, faulty_here}
use Rattle.rasn_traits.specs.Scopes.{faulty_required, faulty_root, faulty_there, reads_end, reads_fields}
use Rattle.rasn_traits.specs.Scopes.{reads_left_out, reads_next, reads_required, reads_there}
use Rattle.rasn_traits.specs.TurnsRead.{CameRead, read_addition, read_bit, read_nothing, read_value}
use Rattle.per_core.specs.declared.decode_error.DecodeError.{DecodeError}
use Rattle.per_core.specs.declared.decode_error.DecodeErrorKind.{DecodeErrorKind}
use Rattle.per_core.specs.declared.decode_error.DecodeErrorKind.TheVariants.{AlreadyFailed}
use Rattle.per_decoding.specs.Additions.{Adds, Asks, ClosesAddition}
use Rattle.per_decoding.specs.Additions.{OutsideAddition}
use Rattle.per_decoding.specs.Choices.{ClosesChoice, EndsFrom, OutsideChoice, UnendedChoice}
use Rattle.per_decoding.specs.Faults.{Fault, IsInNext, IsOf, IsOfEnding, IsOfNext, Misadds, Unended}
use Rattle.per_decoding.specs.Faults.{UnendedAddition, at_bitmap, in_open, not_expected, out_of_turn, unread, unskipped}
use Rattle.per_decoding.specs.InTurn.{OpensUncounted}
use Rattle.per_decoding.proofs.Scoping.Relations as Plain
use Rattle.per_decoding.specs.Rules.{Amidst, Awaits, AwaitsValues, decoder_rules, plain_rules}
use Rattle.per_decoding.specs.Scopes.{Closes, Opens, OutsideRecord}
use Rattle.per_decoding.specs.State.{Marks, Spells, State, noting, with_turn}
use Rattle.per_decoding.specs.Turns.{Turn, awaiting, in_list, is_between, is_complete, is_counted, is_uncounted}
use Rattle.per_decoding.specs.Turns.{misplaced, next, past, uncounted, within_list}

-- what is still to come, told anew
pub turned : {x : Turn} (t : State) → t.turn ≡ x → with_turn x t ≡ t
turned t e = ap (λ z. with_turn z t) (sym e)

-- a value, a presence bit and an addition are read whatever is still to come
module _ (x : Turn) where
  pub spells_at : {c : Schema} {s : State} {v : Value} {t : State} → Spells c s v t
      → Spells c (with_turn x s) v (with_turn x t)
  spells_at h = record {
    live = h.live;
    took = h.took;
    same = ap (λ z. with_turn x z) h.same;
    few = h.few;
    within = h.within;
  }

  pub marks_at : {s : State} {b : Bool} {t : State} → Marks s b t → Marks (with_turn x s) b (with_turn x t)
  marks_at h = record { live = h.live; first = h.first; same = ap (λ z. with_turn x z) h.same }

  pub asks_at : {s : State} {f : Option Bool} {t : State} → Asks s f t → Asks (with_turn x s) f (with_turn x t)
  asks_at h = record {
    live = h.live;
    done = h.done;
    counted = h.counted;
    flags = h.flags;
    rest = h.rest;
    taken = h.taken;
    next = h.next;
    same = ap (λ z. with_turn x z) h.same;
  }

  pub adds_at : (c : Schema) (s : State) (r : Option Value) (t : State) → Adds c s r t
      → Adds c (with_turn x s) r (with_turn x t)
  adds_at c s (Some v) t h = record {
    middle = with_turn x h.middle;
    asks = asks_at h.asks;
    took = h.took;
    same = ap (λ z. with_turn x z) h.same;
    few = h.few;
    within = h.within;
  }
  adds_at c s None t (inl h) = inl (asks_at h)
  adds_at c s None t (inr h) = inr (asks_at h)

  -- so do faults are there
  of_at : (k : DecodeErrorKind) (c : Schema) (s : State) → IsOf k c s → IsOf k c (with_turn x s)
  of_at AlreadyFailed c s h = h
  of_at _ c s h = h

  pub fault_at : {c : Schema} (e : DecodeError) (s : State) → Fault c e s → Fault c e (with_turn x s)
  fault_at {c} e s h = record { codec = h.codec; stands = of_at e.kind c s h.stands }

  in_next_at : {k : DecodeErrorKind} {c : Schema} {s : State} → IsInNext k c s → IsInNext k c (with_turn x s)
  in_next_at (out_of_turn e n) = out_of_turn e n
  in_next_at (not_expected e n) = not_expected e n
  in_next_at (at_bitmap e t n) = at_bitmap e t n
  in_next_at (in_open a h) = in_open (asks_at a) h

  of_next_at : (k : DecodeErrorKind) (c : Schema) (s : State) → IsOfNext k c s → IsOfNext k c (with_turn x s)
  of_next_at AlreadyFailed c s h = h
  of_next_at _ c s h = in_next_at h

  pub misadds_at : {c : Schema} (e : DecodeError) (s : State) → Misadds c e s → Misadds c e (with_turn x s)
  misadds_at {c} e s h = record { codec = h.codec; stands = of_next_at e.kind c s h.stands }

  of_ending_at : {k : DecodeErrorKind} {s : State} → IsOfEnding k s → IsOfEnding k (with_turn x s)
  of_ending_at (unread e n) = unread e n
  of_ending_at (unskipped p n h) = unskipped p n h

  pub unended_at : (e : DecodeError) (s : State) → Unended e s → Unended e (with_turn x s)
  unended_at e s h = record { codec = h.codec; stands = of_ending_at h.stands }

  pub unended_addition_at : (w : OutsideAddition) (e : DecodeError) (s : State) → UnendedAddition w e s
      → UnendedAddition w e (with_turn x s)
  unended_addition_at w e s h = record { codec = h.codec; stands = h.stands }

  pub unended_choice_at : (w : Option OutsideAddition) (e : DecodeError) (s : State) → UnendedChoice w e s
      → UnendedChoice w e (with_turn x s)
  unended_choice_at None e s h = h
  unended_choice_at (Some w) e s h = unended_addition_at w e s h

  -- and so does a scope end
  pub closes_at : {s : State} {w : OutsideRecord} {t : State} → Closes s w t → Closes (with_turn x s) w (with_turn x t)
  closes_at h = record {
    live = h.live;
    done = h.done;
    none = h.none;
    flags = h.flags;
    skipped = h.skipped;
    same = ap (λ z. with_turn x z) h.same;
  }

  pub closes_addition_at : {s : State} {w : OutsideAddition} {t : State} → ClosesAddition s w t
      → ClosesAddition (with_turn x s) w (with_turn x t)
  closes_addition_at h = record { live = h.live; ends = h.ends; same = ap (λ z. with_turn x z) h.same }

  ends_at : (w : Option OutsideAddition) (s m : State) → EndsFrom s w m → EndsFrom (with_turn x s) w (with_turn x m)
  ends_at None s m h = ap (λ z. with_turn x z) h
  ends_at (Some w) s m h = (h.0, ap (λ z. with_turn x z) h.1)

  pub closes_choice_at : {s : State} {w : OutsideChoice} {t : State} → ClosesChoice s w t
      → ClosesChoice (with_turn x s) w (with_turn x t)
  closes_choice_at {s = s} {w = w} h = record {
    live = h.live;
    middle = with_turn x h.middle;
    ends = ends_at w.contents s h.middle h.ends;
    same = ap (λ z. with_turn x z) h.same;
  }

  -- what is read in turn is read so where nothing is counted
  part_at : {p : Presence} {c : Schema} {s : State} {r : Option Value} {t : State} → ReadsPart decoder_rules p c s r t
      → ReadsPart plain_rules p c (with_turn x s) r (with_turn x t)
  part_at (reads_required h) = reads_required (spells_at h)
  part_at (reads_there l m h) = reads_there l (marks_at m) (spells_at h)
  part_at (reads_left_out l m) = reads_left_out l (marks_at m)

  parts_at : {ps : Parts} {s : State} {rs : List (Option Value)} {t : State} → ReadsParts decoder_rules ps s rs t
      → ReadsParts plain_rules ps (with_turn x s) rs (with_turn x t)
  parts_at reads_end = reads_end
  parts_at (reads_next h k) = reads_next (part_at h) (parts_at k)

  addition_at : {p : Presence} {c : Schema} {s : State} {r : Option Value} {t : State}
      → ReadsAddition decoder_rules p c s r t → ReadsAddition plain_rules p c (with_turn x s) r (with_turn x t)
  addition_at {c = c} {s = s} {t = t} (reads_added {v = v} h) = reads_added (adds_at c s (Some v) t h)
  addition_at {c = c} {s = s} {t = t} (reads_lacking l h) = reads_lacking l (adds_at c s None t h)

  additions_at : {qs : Parts} {s : State} {xs : List (Option Value)} {t : State}
      → ReadsAdditions decoder_rules qs s xs t → ReadsAdditions plain_rules qs (with_turn x s) xs (with_turn x t)
  additions_at reads_no_more = reads_no_more
  additions_at (reads_further h k) = reads_further (addition_at h) (additions_at k)

  pub fields_at : {ps qs : Parts} {s : State} {rs xs : List (Option Value)} {t : State}
      → ReadsFields decoder_rules ps qs s rs xs t → ReadsFields plain_rules ps qs (with_turn x s) rs xs (with_turn x t)
  fields_at (reads_fields h k) = reads_fields (parts_at h) (additions_at k)

  faulty_part_at : {e : DecodeError} {p : Presence} {c : Schema} {s : State} → FaultyPart decoder_rules e p c s
      → FaultyPart plain_rules e p c (with_turn x s)
  faulty_part_at {e = e} {s = s} (faulty_required f) = faulty_required (fault_at e (noting s) f)
  faulty_part_at {e = e} (faulty_there {m = n} l m f) = faulty_there l (marks_at m) (fault_at e (noting n) f)
  faulty_part_at (faulty_bit l u) = faulty_bit l u

  faulty_parts_at : {e : DecodeError} {ps : Parts} {s : State} → FaultyParts decoder_rules e ps s
      → FaultyParts plain_rules e ps (with_turn x s)
  faulty_parts_at (faulty_here f) = faulty_here (faulty_part_at f)
  faulty_parts_at (faulty_after h f) = faulty_after (part_at h) (faulty_parts_at f)

  faulty_addition_at : {e : DecodeError} {k : _} {p : Presence} {c : Schema} {s : State}
      → FaultyAddition decoder_rules e k p c s → FaultyAddition plain_rules e k p c (with_turn x s)
  faulty_addition_at {e = e} {s = s} (faulty_added f) = faulty_added (misadds_at e s f)
  faulty_addition_at {c = c} {s = s} (faulty_lacking {t = t} h l) = faulty_lacking (adds_at c s None t h)
      (record { codec = l.codec; stands = l.stands })

  faulty_additions_at : {e : DecodeError} {qs : Parts} {s : State} → FaultyAdditions decoder_rules e qs s
      → FaultyAdditions plain_rules e qs (with_turn x s)
  faulty_additions_at (faulty_addition f) = faulty_addition (faulty_addition_at f)
  faulty_additions_at (faulty_further h f) = faulty_further (addition_at h) (faulty_additions_at f)

  pub faulty_fields_at : {e : DecodeError} {ps qs : Parts} {s : State} → FaultyFields decoder_rules e ps qs s
      → FaultyFields plain_rules e ps qs (with_turn x s)
  faulty_fields_at (faulty_root f) = faulty_root (faulty_parts_at f)
  faulty_fields_at (faulty_after_root h f) = faulty_after_root (parts_at h) (faulty_additions_at f)

-- what is read where nothing is counted is read in turn
part_from : (x : Turn) {p : Presence} {c : Schema} {s : State} {r : Option Value} {t : State}
    → ReadsPart plain_rules p c s r t → ReadsPart decoder_rules p c (with_turn x s) r (with_turn (next x) t)
part_from x (reads_required h) = reads_required (spells_at (next x) h)
part_from x (reads_there l m h) = reads_there l (marks_at x m) (spells_at (next x) h)
part_from x (reads_left_out l m) = reads_left_out l (marks_at (next x) m)

one_more_past : (n : ℕ) (x : Turn) → past n (next x) ≡ past (1 + n) x
one_more_past n x = let e : suc n ≡ 1 + n = omega arith in ap (λ k. past k x) e

parts_from : (x : Turn) {ps : Parts} {s : State} {rs : List (Option Value)} {t : State}
    → ReadsParts plain_rules ps s rs t
    → ReadsParts decoder_rules ps (with_turn x s) rs (with_turn (past (count ps) x) t)
parts_from x reads_end = reads_end
parts_from x {ps = part g p c ps} {s = s} {rs = rs} {t = t} (reads_next h k) =
    subst (λ z. ReadsParts decoder_rules (part g p c ps) (with_turn x s) rs (with_turn z t))
    (one_more_past (count ps) x) (reads_next (part_from x h) (parts_from (next x) k))

addition_from : (x : Turn) {p : Presence} {c : Schema} {s : State} {r : Option Value} {t : State}
    → ReadsAddition plain_rules p c s r t → ReadsAddition decoder_rules p c (with_turn x s) r (with_turn x t)
addition_from x {c = c} {s = s} {t = t} (reads_added {v = v} h) = reads_added (adds_at x c s (Some v) t h)
addition_from x {c = c} {s = s} {t = t} (reads_lacking l h) = reads_lacking l (adds_at x c s None t h)

additions_from : (x : Turn) {qs : Parts} {s : State} {xs : List (Option Value)} {t : State}
    → ReadsAdditions plain_rules qs s xs t → ReadsAdditions decoder_rules qs (with_turn x s) xs (with_turn x t)
additions_from x reads_no_more = reads_no_more
additions_from x (reads_further h k) = reads_further (addition_from x h) (additions_from x k)

pub fields_from : (x : Turn) {ps qs : Parts} {s : State} {rs xs : List (Option Value)} {t : State}
    → ReadsFields plain_rules ps qs s rs xs t
    → ReadsFields decoder_rules ps qs (with_turn x s) rs xs (with_turn (past (count ps) x) t)
fields_from x {ps = ps} (reads_fields h k) = reads_fields (parts_from x h) (additions_from (past (count ps) x) k)

-- how much is still to come after what was read
pub spells_turn : {c : Schema} (s : State) {v : Value} {t : State} → Spells c (noting s) v t → t.turn ≡ next s.turn
spells_turn s h = ap (λ z. z.turn) h.same

pub adds_turn : (c : Schema) (s : State) (r : Option Value) (t : State) → Adds c s r t → t.turn ≡ s.turn
adds_turn c s (Some v) t h = ap (λ z. z.turn) h.same ∙ ap (λ z. z.turn) h.asks.same
adds_turn c s None t (inl h) = ap (λ z. z.turn) h.same
adds_turn c s None t (inr h) = ap (λ z. z.turn) h.same

part_turn : {p : Presence} {c : Schema} {s : State} {r : Option Value} {t : State} → ReadsPart decoder_rules p c s r t
    → t.turn ≡ next s.turn
part_turn {s = s} (reads_required h) = spells_turn s h
part_turn (reads_there {m = n} l m h) = spells_turn n h ∙ ap next (ap (λ z. z.turn) m.same)
part_turn (reads_left_out l m) = ap (λ z. z.turn) m.same

parts_turn : {ps : Parts} {s : State} {rs : List (Option Value)} {t : State} → ReadsParts decoder_rules ps s rs t
    → t.turn ≡ past (count ps) s.turn
parts_turn reads_end = refl
parts_turn {ps = part g p c ps} {s = s} (reads_next h k) = parts_turn k ∙ ap (past (count ps)) (part_turn h)
    ∙ one_more_past (count ps) s.turn

addition_turn : {p : Presence} {c : Schema} {s : State} {r : Option Value} {t : State}
    → ReadsAddition decoder_rules p c s r t → t.turn ≡ s.turn
addition_turn {c = c} {s = s} {t = t} (reads_added {v = v} h) = adds_turn c s (Some v) t h
addition_turn {c = c} {s = s} {t = t} (reads_lacking l h) = adds_turn c s None t h

additions_turn : {qs : Parts} {s : State} {xs : List (Option Value)} {t : State}
    → ReadsAdditions decoder_rules qs s xs t → t.turn ≡ s.turn
additions_turn reads_no_more = refl
additions_turn (reads_further h k) = additions_turn k ∙ addition_turn h

fields_turn : {ps qs : Parts} {s : State} {rs xs : List (Option Value)} {t : State}
    → ReadsFields decoder_rules ps qs s rs xs t → t.turn ≡ past (count ps) s.turn
fields_turn (reads_fields h k) = additions_turn k ∙ parts_turn h

-- all that is due came
uncounted_past : (n : ℕ) → past n uncounted ≡ uncounted
uncounted_past zero = refl
uncounted_past (suc n) = uncounted_past n

pub none_past : (n : ℕ) → is_uncounted (past n uncounted) ≡ true
none_past n = ap is_uncounted (uncounted_past n)

pub all_past : (n : ℕ) → is_complete (past n (awaiting n)) ≡ true
all_past zero = refl
all_past (suc n) = all_past n

-- in a record where so much is to come for so many root components
module _ (due : ℕ → Turn) (ends : Turn → Bool) (all : (n : ℕ) → ends (past n (due n)) ≡ true) where
  pub came_all : (n : ℕ) (x : Turn) → x ≡ due n → ends (past n x) ≡ true
  came_all n x e = ap (λ z. ends (past n z)) e ∙ all n

  pub record_complete : {ps qs : Parts} {i : State} {rs xs : List (Option Value)} {j : State} → i.turn ≡ due (count ps)
      → ReadsFields decoder_rules ps qs i rs xs j → ends j.turn ≡ true
  record_complete {ps} {i = i} n h = ap ends (fields_turn h) ∙ came_all (count ps) i.turn n

-- in a scope of one value
pub came_one : (x : Turn) → x ≡ awaiting 1 → is_complete (next x) ≡ true
came_one x e = ap (λ z. is_complete (next z)) e

pub one_complete : {c : Schema} (i : State) {v : Value} {j : State} → i.turn ≡ awaiting 1 → Spells c (noting i) v j
    → is_complete j.turn ≡ true
one_complete i n h = ap is_complete (spells_turn i h) ∙ came_one i.turn n

-- so much came since
record Since (a : Amount) (i j : State) : Type 0 where
  turn : j.turn ≡ past a.components i.turn
  bits : length i.presences ≡ a.bits + length j.presences
  additions : i.expected ≡ a.additions + j.expected

adds_counted : (c : Schema) (s : State) (r : Option Value) (t : State) → Adds c s r t → s.expected ≡ suc t.expected
adds_counted c s (Some v) t h = h.asks.counted ∙ ap (λ z. suc z.expected) (sym h.same)
adds_counted c s None t (inl h) = h.counted
adds_counted c s None t (inr h) = h.counted

adds_presences : (c : Schema) (s : State) (r : Option Value) (t : State) → Adds c s r t
    → length t.presences ≡ length s.presences
adds_presences c s (Some v) t h = ap (λ z. length z.presences) h.same ∙ ap (λ z. length z.presences) h.asks.same
adds_presences c s None t (inl h) = ap (λ z. length z.presences) h.same
adds_presences c s None t (inr h) = ap (λ z. length z.presences) h.same

since : {a : Amount} {i j : State} → CameRead decoder_rules a i j → Since a i j
since read_nothing = record { turn = refl; bits = omega arith; additions = omega arith }
since {i = i} (read_value {a = a} {m = m} h k) =
    let r = since k in
    record {
      turn = r.turn ∙ ap (past a.components) (spells_turn i h);
      bits = omega (arith, r.bits, ap (λ z. length z.presences) h.same);
      additions = omega (arith, r.additions, ap (λ z. z.expected) h.same);
    }
since {i = i} (read_bit {a = a} {b = true} {m = m} h k) =
    let r = since k in
    record {
      turn = r.turn ∙ ap (past a.components) (ap (λ z. z.turn) h.same);
      bits = omega (arith, r.bits, ap length h.first);
      additions = omega (arith, r.additions, ap (λ z. z.expected) h.same);
    }
since {i = i} (read_bit {a = a} {b = false} {m = m} h k) =
    let r = since k in
    record {
      turn = r.turn ∙ ap (past a.components) (ap (λ z. z.turn) h.same);
      bits = omega (arith, r.bits, ap length h.first);
      additions = omega (arith, r.additions, ap (λ z. z.expected) h.same);
    }
since {i = i} (read_addition {a = a} {c = c} {r = q} {m = m} h k) =
    let r = since k in
    record {
      turn = r.turn ∙ ap (past a.components) (adds_turn c i q m h);
      bits = omega (arith, r.bits, adds_presences c i q m h);
      additions = omega (arith, r.additions, adds_counted c i q m h);
    }

misplaced_past : (n : ℕ) → past n misplaced ≡ misplaced
misplaced_past zero = refl
misplaced_past (suc n) = misplaced_past n

as_many : (n m : ℕ) → is_complete (past n (awaiting m)) ≡ true → n ≡ m
as_many zero zero h = refl
as_many zero (suc m) h = absurd cc
as_many (suc n) zero h = let e : false ≡ true = ap is_complete (sym (misplaced_past n)) ∙ h in absurd cc
as_many (suc n) (suc m) h = ap suc (as_many n m h)

same_amount : (a b : Amount) → a.components ≡ b.components → a.bits ≡ b.bits → a.additions ≡ b.additions → a ≡ b
same_amount a b c d e = ap (λ z. record { components = z; bits = a.bits; additions = a.additions }) c
    ∙ ap (λ z. record { components = b.components; bits = z; additions = a.additions }) d
    ∙ ap (λ z. record { components = b.components; bits = b.bits; additions = z }) e

due_components : (due came : Amount) (i j : State) → Awaits due i → Since came i j → is_complete j.turn ≡ true
    → came.components ≡ due.components
due_components due came i j w r h = as_many came.components due.components
    (subst (λ z. is_complete (past came.components z) ≡ true) w.components (subst (λ z. is_complete z ≡ true) r.turn h))

-- where another amount came than is due, the scope can't end
pub cant_end : (due came : Amount) (i j : State) → Awaits due i → CameRead decoder_rules came i j
    → (came ≡ due → ⊥) → is_complete j.turn ≡ true → j.presences ≡ [] → j.expected ≡ 0 → ⊥
cant_end due came i j w c other h p n =
    let r = since c in
    other (same_amount came due (due_components due came i j w r h)
    (omega (arith, r.bits, w.bits, ap length p)) (omega (arith, r.additions, w.additions, n)))

pub cant_end_one : (came : Amount) (i j : State) → Awaits one_value i → CameRead decoder_rules came i j
    → (came ≡ one_value → ⊥) → is_complete j.turn ≡ true → ⊥
cant_end_one came i j w c other h =
    let r = since c in
    other (same_amount came one_value (due_components one_value came i j w r h)
    (omega (arith, r.bits, w.bits)) (omega (arith, r.additions, w.additions)))

-- nothing came that would have begun in a failed decoder
left_live : {a : Amount} {i j : State} → CameRead decoder_rules a i j → i.failed ≡ false → j.failed ≡ false
left_live read_nothing l = l
left_live (read_value h k) l = left_live k (ap (λ z. z.failed) h.same ∙ h.live)
left_live (read_bit {b = true} h k) l = left_live k (ap (λ z. z.failed) h.same ∙ h.live)
left_live (read_bit {b = false} h k) l = left_live k (ap (λ z. z.failed) h.same ∙ h.live)
left_live {i = i} (read_addition {c = c} {r = q} {m = m} h k) l =
    let n = Plain.adds_keeps c i q m h in left_live k (n.failed ∙ n.live)

pub awaits_live : (due came : Amount) (i j : State) → Awaits due i → CameRead decoder_rules came i j → j.failed ≡ false
awaits_live due came i j w c = left_live c w.live

-- in a list no more values came than were awaited, nor fewer
in_list_as_many : (n m : ℕ) → is_between (past n (in_list m)) ≡ true → n ≡ m
in_list_as_many zero zero h = refl
in_list_as_many zero (suc m) h = absurd cc
in_list_as_many (suc n) zero h = let e : false ≡ true = ap is_between (sym (misplaced_past n)) ∙ h in absurd cc
in_list_as_many (suc n) (suc m) h = ap suc (in_list_as_many n m h)

-- where anything else came, the list isn't gone on in
pub cant_go_on : (n : ℕ) (came : Amount) (i j : State) → AwaitsValues n i → CameRead decoder_rules came i j
    → (came ≡ only_values n → ⊥) → is_between j.turn ≡ true → ⊥
cant_go_on n came i j w c other h =
    let r = since c in
    other (same_amount came (only_values n)
    (in_list_as_many came.components n (subst (λ z. is_between (past came.components z) ≡ true) w.turn
    (subst (λ z. is_between z ≡ true) r.turn h)))
    (omega (arith, r.bits, ap length w.presences)) (omega (arith, r.additions, w.expected)))

pub awaits_values_live : (n : ℕ) (came : Amount) (i j : State) → AwaitsValues n i → CameRead decoder_rules came i j
    → j.failed ≡ false
awaits_values_live n came i j w c = left_live c w.live

-- within a list no scope around it can end that counts what comes
counted_next : (x : Turn) → is_counted x ≡ true → is_counted (next x) ≡ true
counted_next uncounted h = h
counted_next (awaiting zero) h = refl
counted_next (awaiting (suc n)) h = refl
counted_next (in_list zero) h = refl
counted_next (in_list (suc n)) h = refl
counted_next misplaced h = refl

counted_past : (n : ℕ) (x : Turn) → is_counted x ≡ true → is_counted (past n x) ≡ true
counted_past zero x h = h
counted_past (suc n) x h = counted_past n (next x) (counted_next x h)

counted_not : (x : Turn) → is_counted x ≡ true → is_uncounted x ≡ false
counted_not uncounted h = absurd (let e : false ≡ true = h in cc)
counted_not (awaiting n) h = refl
counted_not (in_list n) h = refl
counted_not misplaced h = refl

pub not_within : (x : Turn) → is_counted x ≡ true
    → (is_uncounted (within_list x) ≡ false) × (is_complete (within_list x) ≡ false)
not_within uncounted h = absurd (let e : false ≡ true = h in cc)
not_within (awaiting n) h = (refl, refl)
not_within (in_list n) h = (refl, refl)
not_within misplaced h = (refl, refl)

counts_still : (due came : Amount) (i s : State) → Awaits due i → CameRead decoder_rules came i s
    → is_counted s.turn ≡ true
counts_still due came i s w c =
    let counts : is_counted i.turn ≡ true = ap is_counted w.components in
    ap is_counted ((since c).turn) ∙ counted_past came.components i.turn counts

within_ends : (due came : Amount) (i s j : State) → Awaits due i → CameRead decoder_rules came i s → Amidst s j
    → (is_uncounted j.turn ≡ false) × (is_complete j.turn ≡ false)
within_ends due came i s j w c a = a.within (counted_next s.turn (counts_still due came i s w c))

pub cant_end_within : (due came : Amount) (i s j : State) → Awaits due i → CameRead decoder_rules came i s → Amidst s j
    → is_complete j.turn ≡ false
cant_end_within due came i s j w c a = (within_ends due came i s j w c a).1

pub counted_within : (due came : Amount) (i s j : State) → Awaits due i → CameRead decoder_rules came i s → Amidst s j
    → is_uncounted j.turn ≡ false
counted_within due came i s j w c a = (within_ends due came i s j w c a).0

-- where what comes is counted no record can end in which nothing is
pub counted_since : (due came : Amount) (i j : State) → Awaits due i → CameRead decoder_rules came i j
    → is_uncounted j.turn ≡ false
counted_since due came i j w c = counted_not j.turn (counts_still due came i j w c)

-- in a record where nothing is counted no scope can end that counts what comes
module _ {c : Schema} {s i j : State} {w : OutsideRecord} {around : Turn} {came : Amount}
    (a : OpensUncounted c s w around i) (r : CameRead decoder_rules came i j) where
  pub uncounted_since : is_complete j.turn ≡ false
  uncounted_since = ap is_complete ((since r).turn ∙ ap (past came.components) a.counts
      ∙ uncounted_past came.components)

  pub uncounted_live : j.failed ≡ false
  uncounted_live = left_live r (ap (λ z. z.failed) a.opened.enters.same ∙ a.opened.live)

-- both complete and not
pub contradicts : {A : Type 0} {b : Bool} → b ≡ false → b ≡ true → A
contradicts f t = let e : false ≡ true = sym f ∙ t in absurd cc
