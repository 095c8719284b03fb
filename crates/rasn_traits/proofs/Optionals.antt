-- How the law of a component that may be absent follows from those of its presence bit and of its value.
use Rattle.std.specs.List.{fold}
use Rattle.std.specs.Prelude.{cond, count_by}
use Rattle.std.proofs.Common.{◌≡◌, ℕ, suc, ◌+◌, arith, refl, subst, ◌∙◌, ◌⊎◌, inl, inr, true, false, Result, Ok, Err, Option, Some}
use Rattle.rasn_types.specs.Values.{Value}
use Rattle.rasn_schema.specs.Fields.{is_not_required, may_be_absent, presence_of, shapes_from}
use Rattle.rasn_schema.specs.Structures.{has_bit, presence_bits}
use Rattle.rasn_schema.specs.Schemas.{Presence, required, optional, group, default, Schema, Parts, no_parts, part}
use Rattle.rasn_traits.specs.Calls.{EncoderRules, Written, PresentsWell, DecoderRules, DecodesWell, Refuses, Answers}
use Rattle.rasn_traits.specs.Presences.{presence_bit, left_out}
use Rattle.rasn_traits.specs.Optionals.{GivesPresence, WrittenFreely}
use Rattle.rasn_traits.specs.Scopes.{PresentsPart, presents_required, presents_there, presents_left_out, RefusesPart, refuses_required, refuses_there, refuses_bit, WrittenPart, ReadsPart, reads_there, FaultyPart, faulty_there, faulty_bit}
use Rattle.rasn_traits.proofs.Reading.{there, missing, optional_of}

module _ {E X : Type 0} (rules : EncoderRules E X) (s : Schema) (x y : X) where
  -- a component that isn't there is its presence bit
  pub bit_written : (p : Presence) (r : Option Value) (result : Result (Unit {0}) E) → presence_bit p r ≡ Some false → GivesPresence rules false x result y → WrittenFreely rules p s r x result y
  bit_written p r (Ok u) e h = presents_left_out e h
  bit_written p r (Err d) e h = refuses_bit e h

  pub of_freely : (p : Presence) (r : Option Value) (result : Result (Unit {0}) E) → WrittenFreely rules p s r x result y → WrittenPart rules p s r x result y
  of_freely p r (Ok u) h = h
  of_freely p r (Err d) h = inr h

  -- one that is there is its presence bit and its value
  pub there_written : PresentsWell rules → (p : Presence) (v : Value) (m : X) (result : Result (Unit {0}) E) → presence_bit p (Some v) ≡ Some true
      → rules.marks x true m → Written rules s v m result y → WrittenPart rules p s (Some v) x result y
  there_written L p v m (Ok u) e k h = presents_there e k h
  there_written L p v m (Err d) e k (inl h) = inl (L.mark_room x true m d k h)
  there_written L p v m (Err d) e k (inr h) = inr (refuses_there e k h)

  presents_as : (q : Presence) {p : Presence} {v : Value} → presence_bit p (Some v) ≡ Some true → presence_bit q (Some v) ≡ Some true → PresentsPart rules p s x (Some v) y → PresentsPart rules q s x (Some v) y
  presents_as q e f (presents_required h) = absurd cc
  presents_as q e f (presents_there i k h) = presents_there f k h
  presents_as q e f (presents_left_out i k) = absurd cc

  refuses_as : (q : Presence) {p : Presence} {v : Value} {d : E} → presence_bit p (Some v) ≡ Some true → presence_bit q (Some v) ≡ Some true → RefusesPart rules d p s x (Some v) → RefusesPart rules d q s x (Some v)
  refuses_as q e f (refuses_required h) = absurd cc
  refuses_as q e f (refuses_there i k h) = refuses_there f k h
  refuses_as q e f (refuses_bit i h) = refuses_bit f h

  -- one that is there is written alike, whichever its presence is
  pub written_as : (p q : Presence) (v : Value) (result : Result (Unit {0}) E) → presence_bit p (Some v) ≡ Some true → presence_bit q (Some v) ≡ Some true
      → WrittenPart rules p s (Some v) x result y → WrittenPart rules q s (Some v) x result y
  written_as p q v (Ok u) e f h = presents_as q e f h
  written_as p q v (Err d) e f (inl h) = inl h
  written_as p q v (Err d) e f (inr h) = inr (refuses_as q e f h)

module _ {E S : Type 0} {rules : DecoderRules E S} where
  -- a presence bit that isn't read
  bit_unread : {p : Presence} {d : Option Value} {c : Schema} {s : S} {e : E} → left_out p ≡ Some d
      → Refuses rules.marks rules.unmarked e s → Refuses (ReadsPart rules p c) (λ e. FaultyPart rules e p c) e s
  bit_unread i r = record {
    nothing = λ x t a. elim (optional_of i a) [ there {m} v f k h ↦ r.nothing true m k | missing f k ↦ r.nothing false t k ];
    stands = faulty_bit i r.stands;
  }

  pub bit_refused : {A : Type 0} {p : Presence} {d : Option Value} {c : Schema} {s : S} {e : E} → left_out p ≡ Some d
      → ⊥ ⊎ Refuses rules.marks rules.unmarked e s → A ⊎ Refuses (ReadsPart rules p c) (λ e. FaultyPart rules e p c) e s
  bit_refused i (inl h) = absurd h
  bit_refused i (inr r) = inr (bit_unread i r)

  -- a value after the bit 1 that isn't read
  pub value_unread : DecodesWell rules → {p : Presence} {d : Option Value} {c : Schema} {s m : S} {e : E} → left_out p ≡ Some d → rules.marks s true m
      → rules.memory e m ⊎ Refuses (rules.spells c) (rules.fault c) e m → rules.memory e s ⊎ Refuses (ReadsPart rules p c) (λ e. FaultyPart rules e p c) e s
  value_unread L {s = s} {m} {e} i a (inl h) = inl (L.marked.room s true m e a h)
  value_unread L {c = c} {s = s} {m} i a (inr r) = inr (record {
    nothing = λ x t b. elim (optional_of i b) [
      | there {m = n} v f k h ↦ r.nothing v t (subst (λ z. rules.spells c z v t) (L.marked.one s true true n m k a).1 h)
      | missing f k ↦ (let q = (L.marked.one s false true t m k a).0 in absurd cc)
    ];
    stands = faulty_there i a r.stands;
  })

  -- a value after the bit 1
  pub value_read : DecodesWell rules → {T : Type 0} (value : T → Value) (p : Presence) {d : Option Value} (c : Schema) (s : S) {m : S} (t : S) (result : Result T E) → left_out p ≡ Some d → rules.marks s true m
      → Answers rules.memory (rules.fault c) (rules.spells c) value m result t → Answers rules.memory (λ e. FaultyPart rules e p c) (ReadsPart rules p c) (λ x. Some (value x)) s result t
  value_read L value p c s t (Ok v) i a h = reads_there i a h
  value_read L value p c s t (Err e) i a h = value_unread L i a h

-- the fields that may be absent are the components with a presence bit
bit_counted : (p : Presence) → cond (is_not_required (presence_of p)) 1 0 ≡ has_bit p
bit_counted required = refl
bit_counted optional = refl
bit_counted group = refl
bit_counted (default d) = refl

counted_from : (m i : ℕ) (ps : Parts) → fold (λ (a : ℕ) x. a + cond (may_be_absent x) 1 0) m (shapes_from i ps) ≡ m + presence_bits ps
counted_from m i no_parts = omega arith
counted_from m i (part t p s ps) = counted_from (m + cond (is_not_required (presence_of p)) 1 0) (suc i) ps ∙ omega (arith, bit_counted p)

pub bits_counted : (i : ℕ) (ps : Parts) → count_by may_be_absent (shapes_from i ps) ≡ presence_bits ps
bits_counted i ps = counted_from 0 i ps ∙ omega arith
