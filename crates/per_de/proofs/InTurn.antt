-- Calls that note a component, or open or close a scope that counts them, by the steps that count nothing.
use Rattle.std.proofs.Common.{◌≡◌, ◌⊎◌, inl, inr, refl, sym, ◌∙◌, ap, subst, ℕ, suc, Bool, true, false, [], length, Option, Some, None, List}
use Rattle.std.specs.Prelude.{◌↔◌, Result, Ok, Err, IfErr, IfOk, IsErrAnd, OnErr, OnOk}
use Rattle.rasn_types.specs.Values.{Side, Value, root, added, nothing}
use Rattle.rasn_constraints.specs.Bounds.{Size}
use Rattle.rasn_schema.specs.Structures.{presence_bits, list_value, extended}
use Rattle.rasn_schema.specs.Lists.{list_at}
use Rattle.rasn_schema.specs.Schemas
use Rattle.rasn_schema.specs.Schemas.{Parts, Schema, count}
use Rattle.rasn_schema.specs.declared.items.Place.{Place}
use Rattle.rasn_traits.specs.AdditionsRead.{AdditionOpenedToRead, ReadsNoAddition}
use Rattle.rasn_traits.specs.Amounts.{Amount, amount_of, one_value}
use Rattle.rasn_traits.specs.Calls.{Behaves, Reads, Refuses, freely_read}
use Rattle.rasn_traits.specs.Contents.{OpenedContentsToRead}
use Rattle.rasn_traits.specs.Counted.{PlacedToRead, index_in, side_of}
use Rattle.rasn_traits.specs.Lists.{HasElement, ListOpenedToRead, ListUnread}
use Rattle.rasn_traits.specs.Moments.{date_at}
use Rattle.rasn_traits.specs.Scopes.{ClosedRead, OpenedToRead}
use Rattle.rasn_traits.specs.TurnsRead.{CameRead, RefusesOtherRead}
use Rattle.per_core.specs.declared.decode_error.DecodeError.{DecodeError}
use Rattle.per_core.specs.declared.decode_error.DecodeErrorKind.TheVariants.{AlreadyFailed, MissingTag, OutOfMemory}
use Rattle.per_decoding.specs.Additions.{ClosesAddition, OpensAddition, OpensContaining, OpensContents, OutsideAddition}
use Rattle.per_decoding.specs.Choices.{ClosesChoice, EndsFrom, OpensChoice, OutsideChoice, StandsFrom}
use Rattle.per_decoding.specs.Faults.{Fault, refusal}
use Rattle.per_decoding.specs.InTurn.{AddsInTurn, ChoosesInTurn, ContainsInTurn, Enters, Leaves, OpensUncounted, Unfinished}
use Rattle.per_decoding.proofs.Scoping.InTurn.{awaits_live, contradicts, fault_at, marks_at, spells_at, turned, uncounted_live}
use Rattle.per_decoding.specs.Rules.{Amidst, Awaits, decoder_rules, plain_rules}
use Rattle.per_decoding.specs.Scopes.{Closes, Opens, OutsideRecord}
use Rattle.per_decoding.proofs.Scoping.Spelled.{spelled}
use Rattle.per_decoding.specs.State.{Marks, State, Spells, noting, noting_bit, settings_of, with_turn}
use Rattle.per_decoding.specs.Turns.{Turn, awaiting, in_list, is_complete, misplaced, next, uncounted, within_list}
use Rattle.per_de.specs.InTurn.{LeavesChoice, LeavesOpen, LeavesRecord, are_in_turn, are_open, is_addition_in_turn, is_addition_open, is_choice_in_turn, is_choice_open, is_open_due, is_open_in_turn}
use Rattle.per_de.specs.Outsides.{outside_addition_of, outside_choice_of}
use Rattle.per_de.specs.Lending.{AreLent, ComeAlone, TakesOctets}
use Rattle.per_de.specs.declared.taken_octets.TakenOctets.{TakenOctets}
use Rattle.per_de.specs.Lists.{IsListInTurn, IsOpenList}
use Rattle.per_de.specs.Openings.{is_open}
use Rattle.per_de.specs.Turns.{IsComplete, turn_of}
use Rattle.per_de.specs.declared.Addition.{Addition}
use Rattle.per_de.specs.declared.Alternative.{Alternative}
use Rattle.per_de.specs.declared.ListScope.{ListScope}
use Rattle.per_de.specs.declared.OpenedList.{OpenedList}
use Rattle.per_de.specs.declared.Scope.{Scope}
use Rattle.per_de.specs.declared.turns.Around.{Around}
use Rattle.per_de.specs.declared.turns.Turn as Kept
use Rattle.per_de.proofs.Calls.{failed_refuses, reads_nothing}

-- a value begins in a decoder that hasn't failed
pub still : (s : State) {m : State} → m ≡ noting s → s.failed ≡ false → m.failed ≡ false
still s e live = ap (λ z. z.failed) e ∙ live

module _ {T : Type 0} {c : Schema} {value : T → Value} {s m : State} {t : State} where
  -- what is read after the note
  pub begun : (r : Result T DecodeError) → m ≡ noting s → Reads plain_rules c value m r t → Reads decoder_rules c value s r t
  begun r e h = go r (subst (λ z. Reads plain_rules c value z r t) e h)
    where
      go : (r : Result T DecodeError) → Reads plain_rules c value (noting s) r t → Reads decoder_rules c value s r t
      go (Ok v) h = record { law = h.law; behaves = record { again = h.behaves.again; fails = h.behaves.fails; kept = h.behaves.kept } }
      go (Err f) h = record {
        law = elim h.law [ inl o ↦ inl o | inr n ↦ inr (record { nothing = n.nothing; stands = n.stands }) ];
        behaves = record { again = h.behaves.again; fails = h.behaves.fails; kept = h.behaves.kept };
      }

  pub begun_freely : (r : Result T DecodeError) → m ≡ noting s → Reads (freely_read plain_rules) c value m r t → Reads (freely_read decoder_rules) c value s r t
  begun_freely r e h = go r (subst (λ z. Reads (freely_read plain_rules) c value z r t) e h)
    where
      go : (r : Result T DecodeError) → Reads (freely_read plain_rules) c value (noting s) r t → Reads (freely_read decoder_rules) c value s r t
      go (Ok v) h = record { law = h.law; behaves = record { again = h.behaves.again; fails = h.behaves.fails; kept = h.behaves.kept } }
      go (Err f) h = record {
        law = elim h.law [ inl o ↦ inl o | inr n ↦ inr (record { nothing = n.nothing; stands = n.stands }) ];
        behaves = record { again = h.behaves.again; fails = h.behaves.fails; kept = h.behaves.kept };
      }

-- an error, whatever the call would have answered
abbrev pub failing : (T : Type 0) → DecodeError → Result T DecodeError
failing T e = Err e

-- where no value is read
unread : {c : Schema} (s : State) {e : DecodeError} → (e ≡ refusal OutOfMemory (noting s)) ⊎ Refuses (Spells c) (Fault c) e (noting s)
    → (e ≡ refusal OutOfMemory s) ⊎ Refuses (decoder_rules.spells c) (decoder_rules.fault c) e s
unread s (inl o) = inl o
unread s (inr n) = inr (record { nothing = n.nothing; stands = n.stands })

-- what a step owes, after the note
pub behaves_noted : {T : Type 0} {s m : State} {r : Result T DecodeError} {t : State} → m ≡ noting s
    → Behaves plain_rules.already plain_rules.failed plain_rules.codec m r t → Behaves decoder_rules.already decoder_rules.failed decoder_rules.codec s r t
behaves_noted {s = s} {r = r} {t = t} e h =
    let k = subst (λ z. Behaves plain_rules.already plain_rules.failed plain_rules.codec z r t) e h in
    record { again = k.again; fails = k.fails; kept = k.kept }

-- a scope is entered in which so much is to come
entered : (opens : State → State → Type 0) → ((a b : State) → opens a b → b.turn ≡ a.turn) → (due around : Turn) (s m t : State) (x waits : Turn)
    → m ≡ with_turn around s → waits ≡ m.turn → x ≡ due → opens m t → Enters opens due around s waits (with_turn x t)
entered opens keeps due around s m t x waits e w c h =
    let k = subst (λ z. opens z t) e h in
    record {
      opened = subst (λ z. opens (with_turn around s) z) (sym (turned t (keeps (with_turn around s) t k))) k;
      waiting = w ∙ ap (λ z. z.turn) e;
      counts = c;
    }

record_keeps : (c : Schema) (w : OutsideRecord) (s i : State) → Opens c s w i → i.turn ≡ s.turn
record_keeps c w s i h = ap (λ z. z.turn) h.enters.same

addition_keeps : (w : OutsideAddition) (s i : State) → OpensAddition s w i → i.turn ≡ s.turn
addition_keeps w s i h = ap (λ z. z.turn) h.same ∙ ap (λ z. z.turn) h.asks.same

containing_keeps : (w : OutsideAddition) (s i : State) → OpensContaining s w i → i.turn ≡ s.turn
containing_keeps w s i h = ap (λ z. z.turn) h.opens.enters.same

stands_keeps : (d : Side) (m : State) (w : Option OutsideAddition) (i : State) → StandsFrom d m w i → i.turn ≡ m.turn
stands_keeps root m None i h = ap (λ z. z.turn) h
stands_keeps root m (Some w) i h = absurd h
stands_keeps added m None i h = absurd h
stands_keeps added m (Some w) i h = ap (λ z. z.turn) h.enters.same

choice_keeps : (c : Schema) (d : Side) (k : ℕ) (w : OutsideChoice) (s i : State) → OpensChoice c d k s w i → i.turn ≡ s.turn
choice_keeps c d k w s i h = stands_keeps d h.middle w.contents i h.stands ∙ ap (λ z. z.turn) h.enters.same

-- a record is opened, in which so much is to come for so many root components
pub record_opened : (due : ℕ → Turn) (parts additions : ℕ → Parts) (marker : Bool) (s m t i : State) (o : Scope) (turn : Kept.Turn) (x : Turn) → m ≡ noting s → turn_of turn ≡ m.turn → i ≡ with_turn x t
    → ((n : ℕ) → x ≡ due (count (parts n))) → OpenedToRead plain_rules is_open parts marker additions m (Ok o) t
    → OpenedToRead decoder_rules (is_open_due due) parts marker additions s (Ok (record { scope = o; turn = turn })) i
record_opened due parts additions marker s m t i o turn x e w f c h =
    subst (λ z. OpenedToRead decoder_rules (is_open_due due) parts marker additions s (Ok (record { scope = o; turn = turn })) z) (sym f) (
      ap (λ z. z.levels) (sym e) ∙ h.0,
      entered _ (λ a b. record_keeps (extended (parts t.levels) marker (additions t.levels)) _ a b) (due (count (parts t.levels))) (next s.turn) s m t x (turn_of turn) e w (c t.levels) h.1,
    )

-- it isn't
pub record_unopened : (parts additions : ℕ → Parts) (marker : Bool) (s m t i : State) (e : DecodeError) → m ≡ noting s → OpenedToRead plain_rules is_open parts marker additions m (Err e) t
    → OpenedToRead decoder_rules is_open_in_turn parts marker additions s (Err e) i
record_unopened parts additions marker s m t i e f h = unread s (subst (λ z. OpenedToRead plain_rules is_open parts marker additions z (Err e) t) f h)

-- so much is awaited in it
pub record_awaits : (parts additions : ℕ → Parts) (marker : Bool) (m t i : State) (o : Scope) (n k l : ℕ) → m.failed ≡ false → i ≡ with_turn (awaiting n) t
    → ((j : ℕ) → n ≡ count (parts j)) → ((j : ℕ) → k ≡ presence_bits (parts j)) → ((j : ℕ) → l ≡ count (additions j))
    → OpenedToRead plain_rules is_open parts marker additions m (Ok o) t → (j : ℕ) → Awaits (amount_of (parts j) (additions j)) i
record_awaits parts additions marker m t i o n k l live f cs bs adds h j =
    subst (λ z. Awaits (amount_of (parts j) (additions j)) z) (sym f) (record {
      live = ap (λ z. z.failed) h.1.enters.same ∙ live;
      components = ap awaiting (cs j);
      bits = h.1.presence_count ∙ sym (bs t.levels) ∙ bs j;
      additions = h.1.counts ∙ sym (adds t.levels) ∙ adds j;
    })

-- one value is awaited in a scope of one
pub one_awaited : (t i : State) → t.failed ≡ false → t.presences ≡ [] → t.expected ≡ 0 → i ≡ with_turn (awaiting 1) t → Awaits one_value i
one_awaited t i live p n f = subst (λ z. Awaits one_value z) (sym f) (record { live = live; components = refl; bits = ap length p; additions = n })

pub choice_empty : (d : Side) (m : State) (w : Option OutsideAddition) (i : State) → m.failed ≡ false → m.presences ≡ [] → m.expected ≡ 0 → StandsFrom d m w i
    → (i.failed ≡ false) × (i.presences ≡ []) × (i.expected ≡ 0)
choice_empty root m None i l p n h = (ap (λ z. z.failed) h ∙ l, ap (λ z. z.presences) h ∙ p, ap (λ z. z.expected) h ∙ n)
choice_empty root m (Some w) i l p n h = absurd h
choice_empty added m None i l p n h = absurd h
choice_empty added m (Some w) i l p n h = (ap (λ z. z.failed) h.enters.same ∙ l, ap (λ z. z.presences) h.enters.same, ap (λ z. z.expected) h.enters.same)

-- an addition is opened
pub addition_opened : (s t i : State) (o : Addition) (turn : Kept.Turn) → turn_of turn ≡ s.turn → i ≡ with_turn (awaiting 1) t → OpensAddition s (outside_addition_of t.source o) t
    → AddsInTurn s (outside_addition_of i.source o) (turn_of turn) i
addition_opened s t i o turn w f h =
    subst (λ z. AddsInTurn s (outside_addition_of z.source o) (turn_of turn) z) (sym f)
    (entered _ (λ a b. addition_keeps _ a b) (awaiting 1) s.turn s s t (awaiting 1) (turn_of turn) refl w refl h)

pub addition_awaits : (s : State) (w : OutsideAddition) (t i : State) → OpensAddition s w t → i ≡ with_turn (awaiting 1) t → Awaits one_value i
addition_awaits s w t i h f =
    one_awaited t i (ap (λ z. z.failed) h.same ∙ ap (λ z. z.failed) h.asks.same ∙ h.asks.live) (ap (λ z. z.presences) h.same) (ap (λ z. z.expected) h.same) f

addition_unread : (s : State) (e : DecodeError) → (e ≡ refusal OutOfMemory s) ⊎ ReadsNoAddition plain_rules e s → (e ≡ refusal OutOfMemory s) ⊎ ReadsNoAddition decoder_rules e s
addition_unread s e (inl o) = inl o
addition_unread s e (inr n) = inr (record { nothing = n.nothing; stands = n.stands })

pub addition_unopened : (s t i : State) (e : DecodeError) → AdditionOpenedToRead plain_rules is_addition_open s (Err e) t
    → AdditionOpenedToRead decoder_rules is_addition_in_turn s (Err e) i
addition_unopened s t i e h = addition_unread s e h

-- octets that contain a value are opened
pub contents_opened : (s m t i : State) (o : Addition) (turn : Kept.Turn) → m ≡ noting s → turn_of turn ≡ m.turn → i ≡ with_turn (awaiting 1) t → OpensContaining m (outside_addition_of t.source o) t
    → ContainsInTurn s (outside_addition_of i.source o) (turn_of turn) i
contents_opened s m t i o turn e w f h =
    subst (λ z. ContainsInTurn s (outside_addition_of z.source o) (turn_of turn) z) (sym f)
    (entered _ (λ a b. containing_keeps _ a b) (awaiting 1) (next s.turn) s m t (awaiting 1) (turn_of turn) e w refl h)

pub contents_awaits : (s : State) (w : OutsideAddition) (t i : State) → OpensContaining s w t → i ≡ with_turn (awaiting 1) t → Awaits one_value i
contents_awaits s w t i h f =
    one_awaited t i (ap (λ z. z.failed) h.opens.enters.same ∙ h.live) (ap (λ z. z.presences) h.opens.enters.same) (ap (λ z. z.expected) h.opens.enters.same) f

pub contents_unopened : (s m t i : State) (e : DecodeError) → m ≡ noting s → OpenedContentsToRead plain_rules are_open m (Err e) t
    → OpenedContentsToRead decoder_rules are_in_turn s (Err e) i
contents_unopened s m t i e f h = go (subst (λ z. OpenedContentsToRead plain_rules are_open z (Err e) t) f h)
  where
    go : (e ≡ refusal OutOfMemory (noting s)) ⊎ ((c : Schema) → Refuses (Spells (Schema.containing c)) (Fault (Schema.containing c)) e (noting s))
        → (e ≡ refusal OutOfMemory s) ⊎ ((c : Schema) → Refuses (decoder_rules.spells (Schema.containing c)) (decoder_rules.fault (Schema.containing c)) e s)
    go (inl o) = inl o
    go (inr n) = inr (λ c. record { nothing = (n c).nothing; stands = (n c).stands })

-- A scope is left, or can't be.
module _ (ends : Turn → Bool) (unended : DecodeError → State → Type 0) (closes : State → State → Type 0) (waits : Turn) (s : State) where
  pub left : (t i : State) → ends s.turn ≡ true → t.turn ≡ s.turn → closes s t → i ≡ with_turn waits t → Leaves ends closes s waits i
  left t i c k h f = subst (λ z. Leaves ends closes s waits z) (sym f) (record { complete = c; closed = subst (λ z. closes s z) (sym (turned t k)) h; back = refl })

  pub unleft : (e : DecodeError) → (e ≡ refusal OutOfMemory s) ⊎ (((u : State) → closes s u → ⊥) × unended e s)
      → (e ≡ refusal OutOfMemory s) ⊎ (((u : State) → Leaves ends closes s waits u → ⊥) × Unfinished ends unended e s)
  unleft e (inl m) = inl m
  unleft e (inr h) = inr ((λ u l. h.0 (with_turn s.turn u) l.closed), inr h.1)

-- not as much came as is due
pub incomplete : (unended : DecodeError → State → Type 0) (closes : State → State → Type 0) (waits : Turn) (s : State) (e : DecodeError) (t : State) → IsComplete s (Err e) t → s.failed ≡ false
    → (e ≡ refusal OutOfMemory s) ⊎ (((u : State) → Leaves is_complete closes s waits u → ⊥) × Unfinished is_complete unended e s)
incomplete unended closes waits s e t (inl h) live = contradicts live h.0
incomplete unended closes waits s e t (inr h) live = inr ((λ u l. contradicts h.1 l.complete), inl (h.2, h.1))

pub incomplete_untimely : (due : Amount) (s : State) (e : DecodeError) (t : State) → IsComplete s (Err e) t → (i : State) (came : Amount) → Awaits due i → CameRead decoder_rules came i s
    → e ≡ refusal MissingTag s
incomplete_untimely due s e t (inl h) i came w c = contradicts (awaits_live due came i s w c) h.0
incomplete_untimely due s e t (inr h) i came w c = h.2

pub incomplete_in_list : (s : State) (e : DecodeError) (t : State) → IsComplete s (Err e) t → (m : State) → Amidst m s → e ≡ refusal MissingTag s
incomplete_in_list s e t (inl h) m a = contradicts a.live h.0
incomplete_in_list s e t (inr h) m a = h.2

pub incomplete_in_fields : (s : State) (e : DecodeError) (t : State) → IsComplete s (Err e) t
    → {c : Schema} {m i : State} {w : OutsideRecord} {around : Turn} {came : Amount} → OpensUncounted c m w around i → CameRead decoder_rules came i s → e ≡ refusal MissingTag s
incomplete_in_fields s e t (inl h) a k = contradicts (uncounted_live a k) h.0
incomplete_in_fields s e t (inr h) a k = h.2

pub incomplete_behaves : (s : State) (e : DecodeError) (t : State) → IsComplete s (Err e) t
    → Behaves decoder_rules.already decoder_rules.failed decoder_rules.codec s (failing (Unit {0}) e) t
incomplete_behaves s e t (inl h) = record { again = λ f. h.1; fails = ap (λ z. z.failed) h.2 ∙ h.0; kept = ap (λ z. z.codec) h.2 }
incomplete_behaves s e t (inr h) = record { again = λ f. contradicts h.0 f; fails = ap (λ z. z.failed) h.3; kept = ap (λ z. z.codec) h.3 }

-- a step that was answered hadn't failed before
pub unfailed : (b : Bool) → (b ≡ true → ⊥) → b ≡ false
unfailed true h = absurd (h refl)
unfailed false h = refl

-- a step that leaves a scope where all came
pub record_here : (o : Scope) {s m : State} {r : Result (Unit {0}) DecodeError} {t : State} → m ≡ s → LeavesRecord o m r t → LeavesRecord o s r t
record_here o {r = r} {t = t} e h = subst (λ z. LeavesRecord o z r t) e h

pub choice_here : (o : Alternative) {s m : State} {r : Result (Unit {0}) DecodeError} {t : State} → m ≡ s → LeavesChoice o m r t → LeavesChoice o s r t
choice_here o {r = r} {t = t} e h = subst (λ z. LeavesChoice o z r t) e h

pub open_here : (o : Addition) {s m : State} {r : Result (Unit {0}) DecodeError} {t : State} → m ≡ s → LeavesOpen o m r t → LeavesOpen o s r t
open_here o {r = r} {t = t} e h = subst (λ z. LeavesOpen o z r t) e h

-- what a step that leaves a scope keeps
pub record KeepsState (s t : State) : Type 0 where
  pub turn : t.turn ≡ s.turn
  pub live : t.failed ≡ false
  pub codec : t.codec ≡ s.codec

pub record_left : (s : State) (w : OutsideRecord) (t : State) → Closes s w t → KeepsState s t
record_left s w t h = record { turn = ap (λ z. z.turn) h.same; live = ap (λ z. z.failed) h.same ∙ h.live; codec = ap (λ z. z.codec) h.same }

pub addition_left : (s : State) (w : OutsideAddition) (t : State) → ClosesAddition s w t → KeepsState s t
addition_left s w t h = record { turn = ap (λ z. z.turn) h.same; live = ap (λ z. z.failed) h.same ∙ h.live; codec = ap (λ z. z.codec) h.same }

ends_keep : (s : State) (w : Option OutsideAddition) (m : State) → s.failed ≡ false → EndsFrom s w m → KeepsState s m
ends_keep s None m l h = record { turn = ap (λ z. z.turn) h; live = ap (λ z. z.failed) h ∙ l; codec = ap (λ z. z.codec) h }
ends_keep s (Some w) m l h = record { turn = ap (λ z. z.turn) h.1; live = ap (λ z. z.failed) h.1 ∙ l; codec = ap (λ z. z.codec) h.1 }

pub choice_left : (s : State) (w : OutsideChoice) (t : State) → ClosesChoice s w t → KeepsState s t
choice_left s w t h =
    let k = ends_keep s w.contents h.middle h.live h.ends in
    record { turn = ap (λ z. z.turn) h.same ∙ k.turn; live = ap (λ z. z.failed) h.same ∙ k.live; codec = ap (λ z. z.codec) h.same ∙ k.codec }

pub behaves_left : {T : Type 0} {s t i : State} {x : Turn} (v : T) → s.failed ≡ false → KeepsState s t → i ≡ with_turn x t
    → Behaves decoder_rules.already decoder_rules.failed decoder_rules.codec s (Ok v) i
behaves_left v live k f = record { again = λ h. contradicts live h; fails = tt; kept = ap (λ z. z.codec) f ∙ k.codec }

-- how the calls behave
pub behaves_ok : {T : Type 0} (s m t i : State) (x : Turn) (v : T) → s.failed ≡ false → m ≡ noting s → t.codec ≡ m.codec → i ≡ with_turn x t
    → Behaves decoder_rules.already decoder_rules.failed decoder_rules.codec s (Ok v) i
behaves_ok s m t i x v live e k f = record { again = λ h. contradicts live h; fails = tt; kept = ap (λ z. z.codec) f ∙ k ∙ ap (λ z. z.codec) e }

pub behaves_err : (T U : Type 0) (s m t : State) (e : DecodeError) → m ≡ noting s
    → Behaves plain_rules.already plain_rules.failed plain_rules.codec m (failing T e) t → Behaves decoder_rules.already decoder_rules.failed decoder_rules.codec s (failing U e) t
behaves_err T U s m t e f h =
    let k = subst (λ z. Behaves plain_rules.already plain_rules.failed plain_rules.codec z (failing T e) t) f h in
    record { again = k.again; fails = k.fails; kept = k.kept }

-- a scope that was entered hasn't failed
pub record_live : (c : Schema) (w : OutsideRecord) (m t : State) → m.failed ≡ false → Opens c m w t → t.failed ≡ false
record_live c w m t live h = ap (λ z. z.failed) h.enters.same ∙ live

pub addition_live : (w : OutsideAddition) (s t : State) → OpensAddition s w t → t.failed ≡ false
addition_live w s t h = ap (λ z. z.failed) h.same ∙ ap (λ z. z.failed) h.asks.same ∙ h.asks.live

pub contents_live : (w : OutsideAddition) (s t : State) → OpensContaining s w t → t.failed ≡ false
contents_live w s t h = ap (λ z. z.failed) h.opens.enters.same ∙ h.live

-- a NULL, a REAL, a DATE and lent octets
pub refused_noted : (c : Schema) {s m : State} (e : DecodeError) → m ≡ noting s → Refuses (Spells c) (Fault c) e m → Refuses (decoder_rules.spells c) (decoder_rules.fault c) e s
refused_noted c e f h = let k = subst (λ z. Refuses (Spells c) (Fault c) e z) f h in record { nothing = k.nothing; stands = k.stands }

pub null_read : (s t : State) (r : Result (Unit {0}) DecodeError) → OnOk r (s.failed ≡ false) → OnOk r (t ≡ noting s) → IfErr r (λ e. e ≡ refusal AlreadyFailed s) → OnErr r (s.failed ≡ true) → OnErr r (t ≡ s)
    → Reads (freely_read decoder_rules) Schema.null (λ u. nothing) s r t
null_read s t (Ok u) live noted err failed stays = record {
  law = subst (λ z. Spells Schema.null (noting s) nothing z) (sym noted) (spelled live (reads_nothing (settings_of s) s.bits) refl);
  behaves = record { again = λ f. contradicts live f; fails = tt; kept = ap (λ z. z.codec) noted };
}
null_read s t (Err e) live noted err failed stays = record {
  law = inr (refused_noted Schema.null e refl (failed_refuses Schema.null (noting s) e err failed));
  behaves = record { again = λ f. err; fails = ap (λ z. z.failed) stays ∙ failed; kept = ap (λ z. z.codec) stays };
}

pub date_begun : {T : Type 0} (value : T → Value) (s m t : State) (r : Result T DecodeError) → m ≡ noting s → Reads plain_rules (date_at m.levels) value m r t
    → Reads decoder_rules (date_at s.levels) value s r t
date_begun value s m t r e h = begun r refl (subst (λ z. Reads plain_rules (date_at z.levels) value z r t) e h)

pub date_unread : {s m : State} {e : DecodeError} → m ≡ noting s → (let c = date_at m.levels in (e ≡ refusal OutOfMemory m) ⊎ Refuses (Spells c) (Fault c) e m)
    → (e ≡ refusal OutOfMemory s) ⊎ Refuses (decoder_rules.spells (date_at s.levels)) (decoder_rules.fault (date_at s.levels)) e s
date_unread {s} {m} {e} f h = unread s (subst (λ z. (e ≡ refusal OutOfMemory z) ⊎ Refuses (Spells (date_at z.levels)) (Fault (date_at z.levels)) e z) f h)

pub lent_noted : {T : Type 0} (size : Size) (mark : Bool) (s m : State) (last : ℕ) (borrowed : T → Type 0) (many : T → ℕ) (r : Result T DecodeError) → m ≡ noting s
    → IfOk r (λ x. borrowed x ↔ AreLent size mark m last (many x)) → IfOk r (λ x. borrowed x ↔ AreLent size mark s last (many x))
lent_noted size mark s m last borrowed many (Err d) e h = h
lent_noted size mark s m last borrowed many (Ok x) e h =
    let k = subst (λ z. borrowed x ↔ AreLent size mark z last (many x)) e h in (
      (λ b. let l = k.0 b in record { alone = l.alone; lent = record { some = l.lent.some; lends = l.lent.lends; on_octets = l.lent.on_octets } }),
      (λ l. k.1 (record { alone = l.alone; lent = record { some = l.lent.some; lends = l.lent.lends; on_octets = l.lent.on_octets } })),
    )

pub taken_noted : {size : Size} {mark : Bool} {s m t : State} (r : Result TakenOctets DecodeError) → m ≡ noting s → TakesOctets plain_rules size mark m r t → TakesOctets decoder_rules size mark s r t
taken_noted {size} {mark} (Ok x) e h =
    let w = h.ok in
    record {
      ok = record {
        items = w.items;
        are = w.are;
        read = begun (Ok w.items) e w.read;
        in_front = (
          (λ a. let i = w.in_front.0 a in (subst (λ z. ComeAlone size mark z.bits (length w.items)) e i.0, i.1)),
          (λ i. w.in_front.1 (subst (λ z. ComeAlone size mark z.bits (length w.items)) (sym e) i.0, i.1)),
        );
      };
      err = tt;
    }
taken_noted (Err k) e h = record { ok = tt; err = begun (Err k) e h.err }

-- A list is opened, and gone on in.
pub list_turned : (x : Turn) {e : Schema} {size : Size} {mark : Bool} {s : State} {vs : List Value} {l : ListScope} {i : State} → IsOpenList e size mark s vs l i
    → IsOpenList e size mark (with_turn x s) vs l (with_turn x i)
list_turned x h = record { live = h.live; deeper = h.deeper; outside = h.outside; same = ap (λ z. with_turn x z) h.same; few = h.few; items = h.items }

next_within : (x : Turn) → next (within_list x) ≡ within_list x
next_within uncounted = refl
next_within (awaiting n) = refl
next_within (in_list n) = refl
next_within misplaced = refl

pub list_opened : (size : Size) (mark : Bool) (s m t i : State) (o : ListScope) (turn : Kept.Turn) (x : Turn) → m ≡ noting s → turn_of turn ≡ m.turn → x ≡ within_list (turn_of turn) → i ≡ with_turn x t
    → ListOpenedToRead plain_rules IsOpenList size mark m (Ok o) t → ListOpenedToRead decoder_rules IsListInTurn size mark s (Ok (record { scope = record { list = o; outer = None }; turn = turn })) i
list_opened size mark s m t i o turn x e w f g h =
    let k = subst (λ z. ListOpenedToRead plain_rules IsOpenList size mark z (Ok o) t) e h in
    let a : turn_of turn ≡ next s.turn = w ∙ ap (λ z. z.turn) e in
    subst (λ z. ListOpenedToRead decoder_rules IsListInTurn size mark s (Ok (record { scope = record { list = o; outer = None }; turn = turn })) z) (sym g) (
      k.0,
      λ c. record { list = list_turned uncounted (k.1 c); waiting = a; within = f ∙ ap within_list a },
    )

pub list_unopened : (size : Size) (mark : Bool) (s m t i : State) (d : DecodeError) → m ≡ noting s → ListOpenedToRead {L = ListScope} plain_rules IsOpenList size mark m (Err d) t
    → ListOpenedToRead {L = Around OpenedList} decoder_rules IsListInTurn size mark s (Err d) i
list_unopened size mark s m t i d e h element = unread s (subst (λ z. (element : ℕ → Schema) → ListUnread plain_rules (list_at element size mark z.levels) d z) e h element)

-- a list that was opened in a decoder hasn't failed
pub list_live : (size : Size) (mark : Bool) (m t : State) (o : ListScope) → ListOpenedToRead plain_rules IsOpenList size mark m (Ok o) t → t.failed ≡ false
list_live size mark m t o h = let k = h.1 Schema.boolean in ap (λ z. z.failed) k.same ∙ k.live

pub element_follows : {e : Schema} {size : Size} {mark : Bool} {s : State} {vs : List Value} {m : ListScope} {r : Option Scope} {turn : Kept.Turn} (x : Turn) (j : State) → turn_of turn ≡ next s.turn → x ≡ within_list (next s.turn)
    → HasElement plain_rules IsOpenList e size mark (with_turn x s) vs m j → HasElement decoder_rules IsListInTurn e size mark s vs (record { scope = record { list = m; outer = r }; turn = turn }) j
element_follows {e} {size} {mark} {s} {vs} {m} {r} {turn} x j w f h = record {
  deeper = h.deeper;
  element_read = λ v k b.
      let r = h.element_read v (with_turn j.turn k) (spells_at j.turn b) in
      let kept : j.turn ≡ x = ap (λ z. z.turn) r.same in
      record {
        list = list_turned uncounted r;
        waiting = w;
        within = ap (λ z. z.turn) b.same ∙ ap next (kept ∙ f) ∙ next_within (next s.turn);
      };
  none = λ no v t b. h.none (λ u k c. no u (with_turn (next j.turn) k) (spells_at (next j.turn) c)) v (with_turn x t) (spells_at x b);
  in_element = λ d g. fault_at (next s.turn) d (with_turn x s) (h.in_element d (fault_at j.turn d (noting j) g));
  room = λ d g. h.room d g;
}

pub list_ended : {e : Schema} {size : Size} {mark : Bool} (s : State) (vs : List Value) (turn x : Turn) (j k : State) → turn ≡ next s.turn → k ≡ with_turn turn j
    → Spells (Schemas.list e size mark) (with_turn x s) (list_value vs) j → Spells (Schemas.list e size mark) (noting s) (list_value vs) k
list_ended {e} {size} {mark} s vs turn x j k w f h =
    subst (λ z. Spells (Schemas.list e size mark) (noting s) (list_value vs) z) (sym (f ∙ ap (λ z. with_turn z j) w)) (spells_at (next s.turn) h)

pub list_refused : {e : Schema} {size : Size} {mark : Bool} (s : State) (x : Turn) (d : DecodeError) → ListUnread plain_rules (Schemas.list e size mark) d (with_turn x s)
    → ListUnread decoder_rules (Schemas.list e size mark) d s
list_refused s x d (inl o) = inl o
list_refused s x d (inr n) = inr (record { nothing = λ v t b. n.nothing v (with_turn x t) (spells_at x b); stands = fault_at (next s.turn) d (with_turn x s) n.stands })

-- what is in an open list here
pub still_open : {e : Schema} {size : Size} {mark : Bool} {s : State} {vs : List Value} {l : Around OpenedList} (i : State) → IsListInTurn e size mark s vs l i
    → IsOpenList e size mark (with_turn i.turn s) vs l.scope.list i
still_open i a = list_turned i.turn a.list

-- any choice of alternatives that are counted
pub placed_opened : (choice : ℕ → Schema) (s m t i : State) (p : Place) (o : Alternative) (turn : Kept.Turn) → m ≡ noting s → turn_of turn ≡ m.turn → i ≡ with_turn (awaiting 1) t
    → PlacedToRead plain_rules is_choice_open choice m (Ok (p, o)) t
    → PlacedToRead decoder_rules is_choice_in_turn choice s (Ok (p, record { scope = o; turn = turn })) i
placed_opened choice s m t i p o turn e w f h =
    subst (λ z. PlacedToRead decoder_rules is_choice_in_turn choice s (Ok (p, record { scope = o; turn = turn })) z) (sym f)
    (entered _ (λ a b. choice_keeps (choice t.levels) (side_of p) (index_in p) _ a b) (awaiting 1) (next s.turn) s m t (awaiting 1) (turn_of turn) e w refl h)

pub placed_unopened : (choice : ℕ → Schema) (s m t i : State) (e : DecodeError) → m ≡ noting s → PlacedToRead plain_rules is_choice_open choice m (Err e) t
    → PlacedToRead decoder_rules is_choice_in_turn choice s (Err e) i
placed_unopened choice s m t i e f h = unread s (subst (λ z. PlacedToRead plain_rules is_choice_open choice z (Err e) t) f h)

-- a level is taken
pub deeper_noted : (s m t i : State) (x : Turn) → m ≡ noting s → i ≡ with_turn x t → m.levels ≡ suc t.levels → s.levels ≡ suc i.levels
deeper_noted s m t i x e f h = ap (λ z. z.levels) (sym e) ∙ h ∙ ap (λ z. suc z.levels) (sym f)

-- a presence bit, of which one that is 0 is a component
pub presence_noted : (s m t : State) (b : Bool) → b ≡ false → t ≡ noting m → Marks s b m → Marks (noting_bit b s) b t
presence_noted s m t b e f h =
    let k : Marks s false m = subst (λ (z : Bool). Marks s z m) e h in
    let same : m.turn ≡ s.turn = ap (λ z. z.turn) k.same in
    let n : Marks (noting s) false t = subst (λ z. Marks (noting s) false z) (sym (f ∙ ap (λ (x : Turn). with_turn (next x) m) same)) (marks_at (next s.turn) k) in
    subst (λ (z : Bool). Marks (noting_bit z s) z t) (sym e) n

pub presence_there : (s t : State) (b : Bool) → b ≡ true → Marks s b t → Marks (noting_bit b s) b t
presence_there s t b e h = subst (λ (z : Bool). Marks (noting_bit z s) z t) (sym e) (subst (λ (z : Bool). Marks s z t) e h)
