-- Lists whose values are counted, and in which nothing of the record around them is read (ITU-T X.691, 20).
use Rattle.std.proofs.Common.{◌≡◌, inl, inr, refl, sym, ◌∙◌, ap, subst, ℕ, Bool, false, List}
use Rattle.std.specs.Prelude.{Ok, Err, Option}
use Rattle.rasn_types.specs.Values.{Value}
use Rattle.rasn_constraints.specs.Bounds.{Size}
use Rattle.rasn_schema.specs.Lists.{list_at}
use Rattle.rasn_schema.specs.Structures.{list_value}
use Rattle.rasn_schema.specs.Schemas
use Rattle.rasn_schema.specs.Schemas.{Schema}
use Rattle.rasn_traits.specs.Calls.{Behaves}
use Rattle.rasn_traits.specs.Lists.{HasElement, ListOpenedToRead, ListUnread}
use Rattle.rasn_traits.specs.ListsInTurn.{RefusesOtherValuesRead}
use Rattle.per_core.specs.declared.decode_error.DecodeError.{DecodeError}
use Rattle.per_core.specs.declared.decode_error.DecodeErrorKind.{DecodeErrorKind}
use Rattle.per_core.specs.declared.decode_error.DecodeErrorKind.TheVariants.{AlreadyFailed}
use Rattle.per_decoding.specs.Faults.{Fault, IsOf}
use Rattle.per_decoding.proofs.Scoping.InTurn.{awaits_values_live, contradicts, fault_at, spells_at}
use Rattle.per_decoding.specs.Rules.{AwaitsValues, decoder_rules, plain_rules}
use Rattle.per_decoding.specs.Scopes.{no_record, outside_record, OutsideRecord, with_outside_record}
use Rattle.per_decoding.specs.State.{noting, Spells, State, with_turn}
use Rattle.per_decoding.specs.Turns.{in_list, is_between, next, Turn, uncounted}
use Rattle.per_de.specs.Lists.{closed_off, IsCountedList, IsOpenList, outer_of}
use Rattle.per_de.specs.Turns.{IsBetween, turn_of}
use Rattle.per_de.specs.declared.OpenedList.{OpenedList}
use Rattle.per_de.specs.declared.ListScope.{ListScope}
use Rattle.per_de.specs.declared.Scope.{Scope}
use Rattle.per_de.specs.declared.turns.Around.{Around}
use Rattle.per_de.specs.declared.turns.Turn as Kept
use Rattle.per_de.proofs.InTurn.{list_turned}

-- what is left of a record around has no part in what is read, nor in a fault
spells_with : (w : OutsideRecord) {c : Schema} {s : State} {v : Value} {t : State} → Spells c s v t → Spells c (with_outside_record s w) v (with_outside_record t w)
spells_with w h = record { live = h.live; took = h.took; same = ap (λ z. with_outside_record z w) h.same; few = h.few; within = h.within }

spells_back : {c : Schema} {s : State} {v : Value} {t : State} → Spells c (closed_off s) v t → Spells c s v (with_outside_record t (outside_record s))
spells_back {s = s} h = record { live = h.live; took = h.took; same = ap (λ z. with_outside_record z (outside_record s)) h.same; few = h.few; within = h.within }

of_back : (k : DecodeErrorKind) (c : Schema) (s : State) → IsOf k c (closed_off s) → IsOf k c s
of_back AlreadyFailed c s h = h
of_back _ c s h = h

fault_back : {c : Schema} (e : DecodeError) (s : State) → Fault c e (closed_off s) → Fault c e s
fault_back {c} e s h = record { codec = h.codec; stands = of_back e.kind c s h.stands }

-- a list is opened
pub counted_opened : (size : Size) (mark : Bool) (s m n t i : State) (o : ListScope) (r : Option Scope) (turn : Kept.Turn) → m ≡ noting s → turn_of turn ≡ m.turn → n ≡ closed_off m → outer_of n.source r ≡ outside_record m
    → i ≡ with_turn (in_list 0) t → ListOpenedToRead plain_rules IsOpenList size mark n (Ok o) t
    → ListOpenedToRead decoder_rules IsCountedList size mark s (Ok (record { scope = record { list = o; outer = r }; turn = turn })) i
counted_opened size mark s m n t i o r turn e w f u g h =
    let off : n ≡ closed_off (noting s) = f ∙ ap closed_off e in
    let k = subst (λ z. ListOpenedToRead plain_rules IsOpenList size mark z (Ok o) t) off h in
    subst (λ z. ListOpenedToRead decoder_rules IsCountedList size mark s (Ok (record { scope = record { list = o; outer = r }; turn = turn })) z) (sym g) (
      k.0,
      λ c. record {
        list = list_turned uncounted (k.1 c);
        outer = ap (λ z. outer_of z r) (ap (λ z. z.source) (k.1 c).same ∙ ap (λ z. z.source) (sym off)) ∙ u ∙ ap outside_record e;
        waiting = w ∙ ap (λ z. z.turn) e;
        within = refl;
      },
    )

-- where no list is read
unclosed : {c : Schema} (s : State) {d : DecodeError} → ListUnread plain_rules c d (closed_off (noting s)) → ListUnread decoder_rules c d s
unclosed s (inl o) = inl o
unclosed {c} s {d} (inr n) = inr (record { nothing = λ v t b. n.nothing v (with_outside_record t (no_record s.levels)) (spells_with (no_record s.levels) b); stands = fault_back d (noting s) n.stands })

pub counted_unopened : (size : Size) (mark : Bool) (s m n t i : State) (d : DecodeError) → m ≡ noting s → n ≡ closed_off m → ListOpenedToRead {L = ListScope} plain_rules IsOpenList size mark n (Err d) t
    → ListOpenedToRead {L = Around OpenedList} decoder_rules IsCountedList size mark s (Err d) i
counted_unopened size mark s m n t i d e f h element =
    unclosed s (subst (λ z. (element : ℕ → Schema) → ListUnread plain_rules (list_at element size mark z.levels) d z) (f ∙ ap closed_off e) h element)

-- nothing of a record is left to be read in it
pub opened_awaits : (size : Size) (mark : Bool) (m n t i : State) (o : ListScope) → n ≡ closed_off m → i ≡ with_turn (in_list 0) t → ListOpenedToRead plain_rules IsOpenList size mark n (Ok o) t → AwaitsValues 0 i
opened_awaits size mark m n t i o f g h =
    let k = h.1 Schema.boolean in
    subst (λ z. AwaitsValues 0 z) (sym g) (record {
      live = ap (λ z. z.failed) k.same ∙ k.live;
      turn = refl;
      presences = ap (λ z. z.presences) k.same ∙ ap (λ z. z.presences) f;
      expected = ap (λ z. z.expected) k.same ∙ ap (λ z. z.expected) f;
    })

-- what is in an open list here
pub counted_here : {e : Schema} {size : Size} {mark : Bool} {s : State} {vs : List Value} {l : Around OpenedList} (i : State) → IsCountedList e size mark s vs l i
    → IsOpenList e size mark (closed_off (with_turn i.turn s)) vs l.scope.list i
counted_here i a = list_turned i.turn a.list

pub counted_live : {e : Schema} {size : Size} {mark : Bool} {s : State} {vs : List Value} {l : Around OpenedList} (i : State) → IsCountedList e size mark s vs l i → i.failed ≡ false
counted_live i a = ap (λ z. z.failed) a.list.same ∙ a.list.live

-- an element follows
pub counted_follows : {e : Schema} {size : Size} {mark : Bool} {s : State} {vs : List Value} {m : ListScope} {r : Option Scope} {turn : Kept.Turn} (x : Turn) (j k : State) → turn_of turn ≡ next s.turn
    → outer_of j.source r ≡ outside_record s → k ≡ with_turn (in_list 1) j → HasElement plain_rules IsOpenList e size mark (closed_off (with_turn x s)) vs m j
    → HasElement decoder_rules IsCountedList e size mark s vs (record { scope = record { list = m; outer = r }; turn = turn }) k
counted_follows {e} {size} {mark} {s} {vs} {m} {r} {turn} x j k w u f h =
    subst (λ z. HasElement decoder_rules IsCountedList e size mark s vs (record { scope = record { list = m; outer = r }; turn = turn }) z) (sym f) (record {
      deeper = h.deeper;
      element_read = λ v q b.
          let read = h.element_read v (with_turn j.turn q) (spells_at j.turn b) in
          record {
            list = list_turned uncounted read;
            outer = ap (λ z. outer_of z.source r) b.same ∙ u;
            waiting = w;
            within = ap (λ z. z.turn) b.same;
          };
      none = λ no v t b. h.none (λ q p c. no q (with_turn (in_list 0) p) (spells_at (in_list 0) c)) v (with_outside_record (with_turn x t) (no_record s.levels)) (spells_with (no_record s.levels) (spells_at x b));
      in_element = λ d g. fault_at (next s.turn) d (with_turn x s) (fault_back d (with_turn x s) (h.in_element d (fault_at j.turn d (with_turn (in_list 0) j) g)));
      room = λ d g. h.room d g;
    })

pub next_awaits : {e : Schema} {size : Size} {mark : Bool} {s : State} {vs : List Value} {l : Around OpenedList} (i j k : State) → IsCountedList e size mark s vs l i → j.failed ≡ false → j.presences ≡ i.presences → j.expected ≡ i.expected
    → k ≡ with_turn (in_list 1) j → AwaitsValues 1 k
next_awaits i j k a live p x g = subst (λ z. AwaitsValues 1 z) (sym g) (record {
  live = live;
  turn = refl;
  presences = p ∙ ap (λ z. z.presences) a.list.same;
  expected = x ∙ ap (λ z. z.expected) a.list.same;
})

-- the list has ended
pub counted_ended : {e : Schema} {size : Size} {mark : Bool} (s : State) (vs : List Value) (turn x : Turn) (r : Option Scope) (j k : State) → turn ≡ next s.turn → outer_of j.source r ≡ outside_record s
    → k ≡ with_turn turn (with_outside_record j (outer_of j.source r)) → Spells (Schemas.list e size mark) (closed_off (with_turn x s)) (list_value vs) j
    → Spells (Schemas.list e size mark) (noting s) (list_value vs) k
counted_ended {e} {size} {mark} s vs turn x r j k w u f h =
    subst (λ z. Spells (Schemas.list e size mark) (noting s) (list_value vs) z) (sym (f ∙ ap (λ y. with_turn y (with_outside_record j (outer_of j.source r))) w ∙ ap (λ y. with_turn (next s.turn) (with_outside_record j y)) u))
    (spells_at (next s.turn) (spells_back h))

pub counted_refused : {e : Schema} {size : Size} {mark : Bool} (s : State) (x : Turn) (d : DecodeError) → ListUnread plain_rules (Schemas.list e size mark) d (closed_off (with_turn x s))
    → ListUnread decoder_rules (Schemas.list e size mark) d s
counted_refused s x d (inl o) = inl o
counted_refused s x d (inr n) = inr (record {
  nothing = λ v t b. n.nothing v (with_outside_record (with_turn x t) (no_record s.levels)) (spells_with (no_record s.levels) (spells_at x b));
  stands = fault_at (next s.turn) d (with_turn x s) (fault_back d (with_turn x s) n.stands);
})

-- a call out of turn
pub out_of_turn : (T : Type 0) (s : State) (e : DecodeError) (t : State) → IsBetween s (Err e) t → RefusesOtherValuesRead {T = T} decoder_rules AwaitsValues s (Err e)
out_of_turn T s e t (inl h) = λ n i came w k other. contradicts (awaits_values_live n came i s w k) h.0
out_of_turn T s e t (inr h) = λ n i came w k other. h.2

pub not_out_of_turn : {e : Schema} {size : Size} {mark : Bool} {s : State} {vs : List Value} {l : Around OpenedList} {A : Type 0} (i : State) (d : DecodeError) (t : State) → IsCountedList e size mark s vs l i → IsBetween i (Err d) t → A
not_out_of_turn i d t a (inl h) = contradicts (counted_live i a) h.0
not_out_of_turn i d t a (inr h) = contradicts h.1 (ap is_between a.within)

pub behaves_out_of_turn : {T : Type 0} (s : State) (e : DecodeError) (t : State) → IsBetween s (Err e) t → Behaves {T = T} decoder_rules.already decoder_rules.failed decoder_rules.codec s (Err e) t
behaves_out_of_turn s e t (inl h) = record { again = λ f. h.1; fails = ap (λ z. z.failed) h.2 ∙ h.0; kept = ap (λ z. z.codec) h.2 }
behaves_out_of_turn s e t (inr h) = record { again = λ f. contradicts h.0 f; fails = ap (λ z. z.failed) h.3; kept = ap (λ z. z.codec) h.3 }
