-- One addition in front of those after it.
use Rattle.std.proofs.Common.{◌≡◌, refl, inl, inr, ◌⊎◌, true, false, Result, Ok, Err, List, ◌∷◌, Option, Some, None}
use Rattle.rasn_types.specs.Values.{Value}
use Rattle.rasn_schema.specs.Schemas.{TagTree, Presence, Schema, Parts, part}
use Rattle.rasn_schema.specs.Normal.{normal, normals}
use Rattle.rasn_traits.specs.Additions.{addition_bit, AdditionSkipped, AdditionWritten, PresentsAddition, presents_added, presents_skipped, presents_further, refuses_added, refuses_addition, refuses_further, refuses_skipped, WrittenAddition, WrittenAdditions}
use Rattle.rasn_traits.specs.AdditionsRead.{FaultyAddition, faulty_added, ReadsAddition, reads_added, reads_lacking}
use Rattle.rasn_traits.specs.Calls.{Answers, DecoderRules, EncoderRules, PresentsWell, Refuses}
use Rattle.rasn_traits.specs.Presences.{left_out, slot_of}
use Rattle.rasn_traits.proofs.Reading.{addition_of, given, lacking}
use Rattle.rasn_record.specs.OneAddition.{normal_addition}

module _ {E X : Type 0} (rules : EncoderRules E X) where
  -- want of memory after an addition is want of memory of the whole
  addition_room : PresentsWell rules → {p : Presence} {s : Schema} {x y : X} {r : Option Value} (e : E) → PresentsAddition rules p s x r y → rules.memory e y → rules.memory e x
  addition_room L {x = x} {y = y} e (presents_added {s = s} {v = v} i h) m = L.add_room x s v y e h m
  addition_room L {x = x} {y = y} e (presents_skipped i h) m = L.skip_room x y e h m

  -- an addition that is given, and what comes of those after it
  pub addition_written : PresentsWell rules → (t : TagTree) (p : Presence) (s : Schema) (ps : Parts) (x m : X) (r : Option Value) (rs : List (Option Value)) → PresentsAddition rules p s x r m
      → (result : Result (Unit {0}) E) (y : X) → WrittenAdditions rules ps rs m result y → WrittenAdditions rules (part t p s ps) (r ∷ rs) x result y
  addition_written L t p s ps x m r rs a (Ok u) y w = presents_further a w
  addition_written L t p s ps x m r rs a (Err e) y (inl h) = inl (addition_room L e a h)
  addition_written L t p s ps x m r rs a (Err e) y (inr h) = inr (refuses_further a h)

  -- an addition that is refused
  pub addition_refused : (t : TagTree) (p : Presence) (s : Schema) (ps : Parts) (x y : X) (r : Option Value) (rs : List (Option Value)) (e : E)
      → WrittenAddition rules p s r x (Err e) y → WrittenAdditions rules (part t p s ps) (r ∷ rs) x (Err e) y
  addition_refused t p s ps x y r rs e (inl m) = inl m
  addition_refused t p s ps x y r rs e (inr h) = inr (refuses_addition h)

  -- an addition that is there
  pub given_there : (p : Presence) (s : Schema) (v : Value) (x : X) (result : Result (Unit {0}) E) (y : X) → addition_bit p (Some v) ≡ Some true
      → AdditionWritten rules s v x result y → WrittenAddition rules p s (Some v) x result y
  given_there p s v x (Ok u) y e h = presents_added e h
  given_there p s v x (Err d) y e (inl m) = inl m
  given_there p s v x (Err d) y e (inr h) = inr (refuses_added e h)

  -- an addition that is absent, or at its default
  pub given_absent : (p : Presence) (s : Schema) (r : Option Value) (x : X) (result : Result (Unit {0}) E) (y : X) → addition_bit p r ≡ Some false
      → AdditionSkipped rules x result y → WrittenAddition rules p s r x result y
  given_absent p s r x (Ok u) y e h = presents_skipped e h
  given_absent p s r x (Err d) y e (inl m) = inl m
  given_absent p s r x (Err d) y e (inr h) = inr (refuses_skipped e h)

-- the normal form of the first addition
pub addition_normal : (t : TagTree) (p : Presence) (s : Schema) (ps : Parts) (r : Option Value) (rs : List (Option Value)) → normals (part t p s ps) (r ∷ rs) ≡ normal_addition p s r ∷ normals ps rs
unfolding normal
addition_normal t p s ps None rs = refl
addition_normal t p s ps (Some v) rs = refl

module _ {E S : Type 0} (rules : DecoderRules E S) where
  -- an addition that isn't read
  pub addition_unread : {p : Presence} {k : TagTree} {c : Schema} {s : S} {e : E} → rules.memory e s ⊎ Refuses (rules.adds c) (rules.misadds c) e s
      → rules.memory e s ⊎ Refuses (ReadsAddition rules p c) (λ e. FaultyAddition rules e k p c) e s
  addition_unread (inl m) = inl m
  addition_unread (inr r) = inr (record {
    nothing = λ x t a. elim (addition_of a) [ given v f h ↦ r.nothing (Some v) t h | lacking f h ↦ r.nothing None t h ];
    stands = faulty_added r.stands;
  })

  -- an addition that may be absent
  pub addition_taken : {T : Type 0} (value : T → Value) (p : Presence) (k : TagTree) (c : Schema) (s : S) (result : Result (Option T) E) (t : S) → left_out p ≡ Some None
      → Answers rules.memory (rules.misadds c) (rules.adds c) (slot_of value) s result t → Answers rules.memory (λ e. FaultyAddition rules e k p c) (ReadsAddition rules p c) (slot_of value) s result t
  addition_taken value p k c s (Ok (Some v)) t e h = reads_added h
  addition_taken value p k c s (Ok None) t e h = reads_lacking e h
  addition_taken value p k c s (Err d) t e h = addition_unread h
