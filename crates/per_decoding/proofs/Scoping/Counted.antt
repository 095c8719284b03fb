-- The laws of the relations of a decoder that counts what comes in a scope.
use Rattle.std.proofs.Common.{◌≡◌, ◌∙◌, inl, inr, sym, ap, subst, ℕ, Bool, true}
use Rattle.std.proofs.Common.{false, ◌∷◌, List, Option, Some}
use Rattle.rasn_types.specs.Values.{Side, Value, alternative}
use Rattle.rasn_schema.specs.Structures.{alternative_in, record_value, extended}
use Rattle.rasn_schema.specs.Schemas.{Schema, Parts, count, part}
use Rattle.rasn_traits.specs.AdditionsRead.{AdditionsWell}
use Rattle.rasn_traits.specs.BagsRead.{BagsWell}
use Rattle.rasn_traits.specs.Calls.{DecodesWell}
use Rattle.rasn_traits.specs.Choices.{ChoicesWell}
use Rattle.rasn_traits.specs.Contents.{ContentsWell}
use Rattle.rasn_traits.specs.Errors.{ErrorsWell}
use Rattle.rasn_traits.specs.Scopes.{ReadsFields}
use Rattle.rasn_traits.specs.Scopes.{ScopesWell}
use Rattle.rasn_traits.specs.Sets.{SetsWell}
use Rattle.per_core.specs.ReadingFaults.{NamesLacking}
use Rattle.per_core.specs.declared.decode_error.DecodeError.{DecodeError}
use Rattle.per_core.specs.declared.decode_error.DecodeErrorKind.TheVariants.{OutOfMemory}
use Rattle.per_decoding.specs.Additions.{Adds, ClosesAddition, OpensAddition, OpensContaining}
use Rattle.per_decoding.specs.Additions.{OutsideAddition}
use Rattle.per_decoding.specs.Choices.{ClosesChoice, OpensChoice, OutsideChoice, UnendedChoice}
use Rattle.per_decoding.specs.Faults.{Fault, Misadds, Unended}
use Rattle.per_decoding.specs.Faults.{UnendedAddition}
use Rattle.per_decoding.specs.InTurn.{AddsInTurn, ChoosesInTurn, ContainsInTurn, Leaves, OpensDue}
use Rattle.per_decoding.specs.InTurn.{Unfinished}
use Rattle.per_decoding.proofs.Scoping.Additions as Plain_additions
use Rattle.per_decoding.proofs.Scoping.Bags as Plain_bags
use Rattle.per_decoding.proofs.Scoping.Choices as Plain_choices
use Rattle.per_decoding.proofs.Scoping.Contents as Plain_contents
use Rattle.per_decoding.proofs.Scoping.Errors as Plain_errors
use Rattle.per_decoding.proofs.Scoping.Relations as Plain
use Rattle.per_decoding.proofs.Scoping.Scopes as Plain_scopes
use Rattle.per_decoding.proofs.Scoping.Sets as Plain_sets
use Rattle.per_decoding.specs.Rules.{decoder_rules, plain_rules}
use Rattle.per_decoding.specs.Scopes.{Closes, Opens, OutsideRecord}
use Rattle.per_decoding.specs.State.{Marks, Source, Spells, State, noting, noting_bit, with_turn}
use Rattle.per_decoding.specs.Turns.{Turn, in_list, is_complete}
use Rattle.per_decoding.specs.Turns.{next, past}
use Rattle.per_decoding.proofs.Scoping.InTurn.{adds_turn, came_one, contradicts, fields_from, one_complete}
use Rattle.per_decoding.proofs.Scoping.InTurn.{came_all, closes_addition_at, closes_at, closes_choice_at, fault_at}
use Rattle.per_decoding.proofs.Scoping.InTurn.{faulty_fields_at, fields_at, unended_addition_at, unended_at}
use Rattle.per_decoding.proofs.Scoping.InTurn.{unended_choice_at}
use Rattle.per_decoding.proofs.Scoping.InTurn.{record_complete, spells_at, spells_turn, turned}

one_mark : (s : State) (b c : Bool) (t u : State) → Marks (noting_bit b s) b t → Marks (noting_bit c s) c u
    → (b ≡ c) × (t ≡ u)
one_mark s true true t u m n = Plain.decodes_well.marked.one s true true t u m n
one_mark s false false t u m n = Plain.decodes_well.marked.one (noting s) false false t u m n
one_mark s true false t u m n = let e : true ∷ t.presences ≡ false ∷ u.presences = sym m.first ∙ n.first in absurd cc
one_mark s false true t u m n = let e : false ∷ t.presences ≡ true ∷ u.presences = sym m.first ∙ n.first in absurd cc

mark_level : (s : State) (b : Bool) (t : State) → Marks (noting_bit b s) b t → t.levels ≡ s.levels
mark_level s true t m = ap (λ z. z.levels) m.same
mark_level s false t m = ap (λ z. z.levels) m.same

mark_begun : (s : State) (b : Bool) (t : State) → Marks (noting_bit b s) b t → s.failed ≡ false
mark_begun s true t m = m.live
mark_begun s false t m = m.live

mark_left : (s : State) (b : Bool) (t : State) → Marks (noting_bit b s) b t → t.failed ≡ false
mark_left s true t m = ap (λ z. z.failed) m.same ∙ m.live
mark_left s false t m = ap (λ z. z.failed) m.same ∙ m.live

mark_codec : (s : State) (b : Bool) (t : State) → Marks (noting_bit b s) b t → t.codec ≡ s.codec
mark_codec s true t m = ap (λ z. z.codec) m.same
mark_codec s false t m = ap (λ z. z.codec) m.same

pub decodes_well : DecodesWell decoder_rules
decodes_well = record {
  spelled = λ c. let l = Plain.reads_well c in record {
    one = λ s v w t u a b. l.one (noting s) v w t u a b;
    level = λ s v t a. l.level (noting s) v t a;
    begun = λ s v t a. l.begun (noting s) v t a;
    left = λ s v t a. l.left (noting s) v t a;
    room = λ s v t e a m. l.room (noting s) v t e a m;
  };
  marked = record {
    one = one_mark;
    level = mark_level;
    begun = mark_begun;
    left = mark_left;
    room = λ s b t e m h. h ∙ ap (λ z. record { kind = OutOfMemory; codec = z }) (mark_codec s b t m);
  };
  added = λ c. let l = Plain.decodes_well.added c in record {
    one = l.one;
    level = l.level;
    begun = l.begun;
    left = l.left;
    room = l.room;
  };
}

pub errors_well : ErrorsWell decoder_rules NamesLacking
errors_well = record { lacking = λ t e s h. Plain_errors.errors_well.lacking t e s h }

pub sets_well : SetsWell decoder_rules
sets_well = record {
  set_read = λ ps marker qs s t rs xs r. Plain_sets.sets_well.set_read ps marker qs (noting s) t rs xs r;
  set_back = λ ps marker qs s t v r. Plain_sets.sets_well.set_back ps marker qs (noting s) t v r;
  in_set = λ ps marker qs s e f. Plain_sets.sets_well.in_set ps marker qs (noting s) e f;
}

pub bags_well : BagsWell decoder_rules
bags_well = record {
  bag_read = λ e size mark s t vs r. Plain_bags.bags_well.bag_read e size mark (noting s) t vs r;
  none = λ e size mark s no w t r. Plain_bags.bags_well.none e size mark (noting s) no w t r;
  in_list = λ e size mark s d f. Plain_bags.bags_well.in_list e size mark (noting s) d f;
  cut = λ s v t r. Plain_bags.bags_well.cut (noting s) v t r;
}

-- A record is what is in its scope, however much is to come there for its root components.
pub scopes_well : {O : Type 0} (outside : Source → O → OutsideRecord) (waits : O → Turn) (due : ℕ → Turn)
    (ends : Turn → Bool) → ((n : ℕ) → ends (past n (due n)) ≡ true)
    → ScopesWell decoder_rules (λ o e s. Unfinished ends Unended e s)
    (λ c s o i. OpensDue due c s (outside i.source o) (waits o) i)
    (λ s o t. Leaves ends (λ a b. Closes a (outside s.source o) b) s (waits o) t)
scopes_well {O} outside waits due ends all = record {
  inside = λ c s o i a. l.inside c (noting s) o (with_turn (next s.turn) i) a.opened;
  room = λ c s o i e a m. l.room c (noting s) o (with_turn (next s.turn) i) e a.opened m;
  in_part = λ ps marker qs s o i e a f. l.in_part ps marker qs (noting s) o (with_turn (next s.turn) i) e a.opened
      (faulty_fields_at (next s.turn) f);
  at_end = λ ps marker qs s i j o rs xs e a b u. at_end ps marker qs s i j o rs xs e a b u;
  record_read = λ ps marker qs s i j t o rs xs a b c.
      subst (λ z. Spells (extended ps marker qs) (noting s) (record_value rs xs) z) (turned t (c.back ∙ a.waiting))
      (l.record_read ps marker qs (noting s) (with_turn (next s.turn) i) (with_turn (next s.turn) j)
      (with_turn (next s.turn) t) o rs xs a.opened (fields_at (next s.turn) b) (closes_at (next s.turn) c.closed));
  record_back = λ ps marker qs s i t o v a b.
      let r = l.record_back ps marker qs (noting s) (with_turn (next s.turn) i) t o v a.opened b in
      let x = past (count ps) i.turn in (
        r.0,
        r.1,
        with_turn x r.2,
        fields_from i.turn r.3,
        record {
          complete = came_all due ends all (count ps) i.turn a.counts;
          closed = closes_at x r.4;
          back = spells_turn s b ∙ sym a.waiting;
        },
      );
}
  where
    l : ScopesWell plain_rules (λ o e s. Unended e s) (λ c s o i. Opens c s (outside i.source o) i)
        (λ s o t. Closes s (outside s.source o) t)
    l = Plain_scopes.scopes_well outside

    at_end : (ps : Parts) (marker : Bool) (qs : Parts) (s i j : State) (o : O) (rs xs : List (Option Value))
        (e : DecodeError) → OpensDue due (extended ps marker qs) s (outside i.source o) (waits o) i
        → ReadsFields decoder_rules ps qs i rs xs j → Unfinished ends Unended e j
        → Fault (extended ps marker qs) e (noting s)
    at_end ps marker qs s i j o rs xs e a b (inl n) = contradicts n.1 (record_complete due ends all a.counts b)
    at_end ps marker qs s i j o rs xs e a b (inr u) = l.at_end ps marker qs (noting s) (with_turn (next s.turn) i)
        (with_turn (next s.turn) j) o rs xs e a.opened (fields_at (next s.turn) b) (unended_at (next s.turn) e j u)

-- An addition is what is in its open type.
pub additions_well : {O : Type 0} (outside : Source → O → OutsideAddition) (waits : O → Turn)
    → AdditionsWell decoder_rules (λ o e s. Unfinished is_complete (UnendedAddition (outside s.source o)) e s)
    (λ s o i. AddsInTurn s (outside i.source o) (waits o) i)
    (λ s o t. Leaves is_complete (λ a b. ClosesAddition a (outside s.source o) b) s (waits o) t)
additions_well {O} outside waits = record {
  inside = λ s o i a. l.inside s o (with_turn s.turn i) a.opened;
  level = λ s o i a. l.level s o (with_turn s.turn i) a.opened;
  room = λ s o i e a m. l.room s o (with_turn s.turn i) e a.opened m;
  in_addition = λ c s o i e a f. l.in_addition c s o (with_turn s.turn i) e a.opened (fault_at s.turn e (noting i) f);
  at_end = λ c s i j o v e a b u. at_end c s i j o v e a b u;
  addition_read = λ c s i j t o v a b z.
      subst (λ y. Adds c s (Some v) y) (turned t (z.back ∙ a.waiting))
      (l.addition_read c s (with_turn s.turn i) (with_turn s.turn j) (with_turn s.turn t) o v a.opened
      (spells_at s.turn b) (closes_addition_at s.turn z.closed));
  addition_back = λ c s i t o r a b.
      let q = l.addition_back c s (with_turn s.turn i) t o r a.opened b in
      let x = next i.turn in (
        q.0,
        with_turn x q.1,
        q.2,
        spells_at x q.3,
        record {
          complete = came_one i.turn a.counts;
          closed = closes_addition_at x q.4;
          back = adds_turn c s r t b ∙ sym a.waiting;
        },
      );
}
  where
    l : AdditionsWell plain_rules (λ o e s. UnendedAddition (outside s.source o) e s)
        (λ s o i. OpensAddition s (outside i.source o) i) (λ s o t. ClosesAddition s (outside s.source o) t)
    l = Plain_additions.additions_well outside

    at_end : (c : Schema) (s i j : State) (o : O) (v : Value) (e : DecodeError)
        → AddsInTurn s (outside i.source o) (waits o) i → Spells c (noting i) v j
        → Unfinished is_complete (UnendedAddition (outside j.source o)) e j → Misadds c e s
    at_end c s i j o v e a b (inl n) = contradicts n.1 (one_complete i a.counts b)
    at_end c s i j o v e a b (inr u) = l.at_end c s (with_turn s.turn i) (with_turn s.turn j) o v e a.opened
        (spells_at s.turn b) (unended_addition_at s.turn (outside j.source o) e j u)

-- What octets contain is what is read in them.
pub contents_well : {O : Type 0} (outside : Source → O → OutsideAddition) (waits : O → Turn)
    → ContentsWell decoder_rules (λ o e s. Unfinished is_complete (UnendedAddition (outside s.source o)) e s)
    (λ s o i. ContainsInTurn s (outside i.source o) (waits o) i)
    (λ s o t. Leaves is_complete (λ a b. ClosesAddition a (outside s.source o) b) s (waits o) t)
contents_well {O} outside waits = record {
  inside = λ s o i a. l.inside (noting s) o (with_turn (next s.turn) i) a.opened;
  level = λ s o i a. l.level (noting s) o (with_turn (next s.turn) i) a.opened;
  room = λ s o i e a m. l.room (noting s) o (with_turn (next s.turn) i) e a.opened m;
  in_contents = λ c s o i e a f. l.in_contents c (noting s) o (with_turn (next s.turn) i) e a.opened
      (fault_at (next s.turn) e (noting i) f);
  at_end = λ c s i j o v e a b u. at_end c s i j o v e a b u;
  contents_read = λ c s i j t o v a b z.
      subst (λ y. Spells (Schema.containing c) (noting s) v y) (turned t (z.back ∙ a.waiting))
      (l.contents_read c (noting s) (with_turn (next s.turn) i) (with_turn (next s.turn) j) (with_turn (next s.turn) t)
      o v a.opened (spells_at (next s.turn) b) (closes_addition_at (next s.turn) z.closed));
  contents_back = λ c s i t o v a b.
      let q = l.contents_back c (noting s) (with_turn (next s.turn) i) t o v a.opened b in
      let x = next i.turn in (
        with_turn x q.0,
        spells_at x q.1,
        record {
          complete = came_one i.turn a.counts;
          closed = closes_addition_at x q.2;
          back = spells_turn s b ∙ sym a.waiting;
        },
      );
}
  where
    l : ContentsWell plain_rules (λ o e s. UnendedAddition (outside s.source o) e s)
        (λ s o i. OpensContaining s (outside i.source o) i) (λ s o t. ClosesAddition s (outside s.source o) t)
    l = Plain_contents.contents_well outside

    at_end : (c : Schema) (s i j : State) (o : O) (v : Value) (e : DecodeError)
        → ContainsInTurn s (outside i.source o) (waits o) i → Spells c (noting i) v j
        → Unfinished is_complete (UnendedAddition (outside j.source o)) e j → Fault (Schema.containing c) e (noting s)
    at_end c s i j o v e a b (inl n) = contradicts n.1 (one_complete i a.counts b)
    at_end c s i j o v e a b (inr u) = l.at_end c (noting s) (with_turn (next s.turn) i) (with_turn (next s.turn) j) o v
        e a.opened (spells_at (next s.turn) b) (unended_addition_at (next s.turn) (outside j.source o) e j u)

-- A choice is what is after its index.
pub choices_well : {O : Type 0} (outside : Source → O → OutsideChoice) (waits : O → Turn)
    → ChoicesWell decoder_rules (λ o e s. Unfinished is_complete (UnendedChoice (outside s.source o).contents) e s)
    (λ c d k s o i. ChoosesInTurn c d k s (outside i.source o) (waits o) i)
    (λ s o t. Leaves is_complete (λ a b. ClosesChoice a (outside s.source o) b) s (waits o) t)
choices_well {O} outside waits = record {
  inside = λ c d k s o i a. l.inside c d k (noting s) o (with_turn (next s.turn) i) a.opened;
  room = λ c d k s o i e a m. l.room c d k (noting s) o (with_turn (next s.turn) i) e a.opened m;
  in_alternative = λ c d k b s o i e a p f. l.in_alternative c d k b (noting s) o (with_turn (next s.turn) i) e a.opened
      p (fault_at (next s.turn) e (noting i) f);
  at_end = λ c d k b s i j o v e a p r u. at_end c d k b s i j o v e a p r u;
  choice_read = λ c d k b s i j t o v a p r z.
      subst (λ y. Spells c (noting s) (alternative d k v) y) (turned t (z.back ∙ a.waiting))
      (l.choice_read c d k b (noting s) (with_turn (next s.turn) i) (with_turn (next s.turn) j)
      (with_turn (next s.turn) t) o v a.opened p (spells_at (next s.turn) r) (closes_choice_at (next s.turn) z.closed));
  choice_back = λ c d k b s i t o v a p r.
      let q = l.choice_back c d k b (noting s) (with_turn (next s.turn) i) t o v a.opened p r in
      let x = next i.turn in (
        with_turn x q.0,
        (q.1.0, q.1.1, spells_at x q.1.2),
        record {
          complete = came_one i.turn a.counts;
          closed = closes_choice_at x q.2;
          back = spells_turn s r ∙ sym a.waiting;
        },
      );
}
  where
    l : ChoicesWell plain_rules (λ o e s. UnendedChoice (outside s.source o).contents e s)
        (λ c d k s o i. OpensChoice c d k s (outside i.source o) i) (λ s o t. ClosesChoice s (outside s.source o) t)
    l = Plain_choices.choices_well outside

    at_end : (c : Schema) (d : Side) (k : ℕ) (b : Schema) (s i j : State) (o : O) (v : Value) (e : DecodeError)
        → ChoosesInTurn c d k s (outside i.source o) (waits o) i → alternative_in c d k ≡ Some b
        → Spells b (noting i) v j → Unfinished is_complete (UnendedChoice (outside j.source o).contents) e j
        → Fault c e (noting s)
    at_end c d k b s i j o v e a p r (inl n) = contradicts n.1 (one_complete i a.counts r)
    at_end c d k b s i j o v e a p r (inr u) = l.at_end c d k b (noting s) (with_turn (next s.turn) i)
        (with_turn (next s.turn) j) o v e a.opened p (spells_at (next s.turn) r)
        (unended_choice_at (next s.turn) (outside j.source o).contents e j u)
