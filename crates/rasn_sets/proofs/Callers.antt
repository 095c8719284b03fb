-- What a caller of `decode_set` owes, from what the calls of a decoder answer, and what it gets.
use Rattle.std.specs.Prelude.{IfOk}
use Rattle.std.proofs.Common.{◌≡◌, refl, ◌⊎◌, inl, inr, ℕ, Result, Ok, Err, List, length, Option, Some, None}
use Rattle.rasn_types.specs.Values.{Value}
use Rattle.rasn_types.specs.declared.types.Tag.{Tag}
use Rattle.rasn_schema.specs.Records.{record_at}
use Rattle.rasn_schema.specs.Structures.{record_value}
use Rattle.rasn_schema.specs.Schemas.{TagTree, Presence, by_tag, Schema}
use Rattle.rasn_traits.specs.AdditionsRead.{FaultyAddition, faulty_added, ReadsAddition, reads_added, reads_lacking, TakesAddition}
use Rattle.rasn_traits.specs.Calls.{DecoderRules, Reads, Refuses}
use Rattle.rasn_traits.specs.Presences.{left_out}
use Rattle.rasn_traits.proofs.Reading.{addition_of, given, lacking}
use Rattle.rasn_sets.specs.Components.{AdditionAnswered, ItemAnswered, KeepsEach, MakesSet, ReadsEach, ReadsSetEach, StatedSet}

module _ {E S : Type 0} (rules : DecoderRules E S) where
  -- the item of a root component, by a call that reads its value
  pub item_answered : {I : Type 0} (c : Schema) (place : I → ℕ) (value : I → Value) (i : ℕ) (s : S) (r : Result I E) (t : S) → Reads rules c value s r t
      → IfOk r (λ x. place x ≡ i) → ItemAnswered rules c place (λ x. Some (value x)) i s r t
  item_answered c place value i s (Ok x) t h p = (p, value x, refl, h.law)
  item_answered c place value i s (Err e) t h p = h.law

  slot_read : (p : Presence) (c : Schema) (s : S) (o : Option Value) (t : S) → left_out p ≡ Some None → rules.adds c s o t → ReadsAddition rules p c s o t
  slot_read p c s (Some v) t l h = reads_added h
  slot_read p c s None t l h = reads_lacking l h

  slot_refused : (k : TagTree) (p : Presence) (c : Schema) (s : S) (e : E) → left_out p ≡ Some None → rules.memory e s ⊎ Refuses (rules.adds c) (rules.misadds c) e s
      → rules.memory e s ⊎ Refuses (ReadsAddition rules p c) (λ e. FaultyAddition rules e k p c) e s
  slot_refused k p c s e l (inl m) = inl m
  slot_refused k p c s e l (inr r) = inr (record {
    nothing = λ o t a. elim (addition_of a) [ given v f h ↦ r.nothing (Some v) t h | lacking f h ↦ r.nothing None t h ];
    stands = faulty_added r.stands;
  })

  -- the item of an addition that may be absent and has no default, by a call that reads it
  pub addition_answered : {I : Type 0} (k : TagTree) (p : Presence) (c : Schema) (place : I → ℕ) (slot : I → Option Value) (i : ℕ) (s : S) (r : Result I E) (t : S)
      → left_out p ≡ Some None → TakesAddition rules c slot s r t → IfOk r (λ x. place x ≡ i) → AdditionAnswered rules k p c place slot i s r t
  addition_answered k p c place slot i s (Ok x) t l h w = (w, slot_read p c s (slot x) t l h.law)
  addition_answered k p c place slot i s (Err e) t l h w = slot_refused k p c s e l h.law

-- a call that read a SET by functions that keep to their part and to the variant
pub set_read_each : {E S I T : Type 0} {rules : DecoderRules E S} {set : StatedSet} {contents added : T → List (Option Value)}
    {gives : S → ℕ → Tag → Result I E → S → Type 0} {makes : List I → Result T E → Type 0} {s t : S} {r : Result T E}
    → ReadsSetEach rules set contents added gives makes s r t → (place : I → ℕ) (slot : I → Option Value)
    → ((n : ℕ) → ReadsEach rules (set.parts n) (set.additions n) (length set.fields) place slot n gives)
    → ((n : ℕ) → MakesSet rules (rules.codec s) set.fields set.behind (set.parts n) contents added place slot makes) → KeepsEach rules gives
    → Reads rules (record_at by_tag set.parts set.marker set.additions (rules.levels s)) (λ x. record_value (contents x) (added x)) s r t
set_read_each w place slot each made kept = record {
  law = w.law place slot (λ n l. each n) (λ n l. made n);
  behaves = record { again = w.again; fails = w.fails; kept = w.kept kept };
}
