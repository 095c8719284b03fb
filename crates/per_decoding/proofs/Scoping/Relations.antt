-- The laws of the decoder's relations.
use Rattle.std.proofs.Common.{◌≡◌, inl, inr, sym, ◌∙◌, refl, ap, subst, Bool, true, false, ◌∷◌, Option, Some, None}
use Rattle.rasn_types.specs.Values.{Value}
use Rattle.rasn_schema.specs.Schemas.{Schema}
use Rattle.rasn_traits.specs.Calls.{DecodesWell, ReadsWell}
use Rattle.per_core.specs.Basic.{Fills, OpenOf, basic}
use Rattle.per_core.specs.Spellings.{Took, Settings}
use Rattle.per_core.proofs.SpellingsAgree.{Agree}
use Rattle.per_core.proofs.TakenInTurn.{took_agree}
use Rattle.per_core.proofs.Readings.{one_reading}
use Rattle.per_core.proofs.Unique.{fills_agree, open_agree}
use Rattle.per_core.specs.declared.decode_error.DecodeErrorKind.TheVariants.{OutOfMemory}
use Rattle.per_decoding.specs.Additions.{Adds, Asks}
use Rattle.per_decoding.specs.State.{State, Marks, Spells, settings_of, with_bits}
use Rattle.per_decoding.specs.Faults.{refusal}
use Rattle.per_decoding.specs.Rules.{plain_rules}
use Rattle.per_decoding.proofs.Scoping.Tails.{asks_agree}

-- one value, and one state after it
one_state : (c : Schema) (s : State) (v w : Value) (t u : State) → Spells c s v t → Spells c s w u → (v ≡ w) × (t ≡ u)
one_state c s v w t u a b =
    let r = took_agree (one_reading (settings_of s) c v w) a.took b.took in
    (r.0, a.same ∙ ap (λ z. with_bits s z) r.1 ∙ sym b.same)

pub reads_well : (c : Schema) → ReadsWell plain_rules (Spells c)
reads_well c = record {
  one = one_state c;
  level = λ s v t a. ap (λ z. z.levels) a.same;
  begun = λ s v t a. a.live;
  left = λ s v t a. ap (λ z. z.failed) a.same ∙ a.live;
  room = λ s v t e a m. m ∙ ap (λ z. refusal OutOfMemory z) a.same;
}

-- one presence bit, and one state after it
one_mark : (s : State) (b c : Bool) (t u : State) → Marks s b t → Marks s c u → (b ≡ c) × (t ≡ u)
one_mark s b c t u m n =
    let e : b ∷ t.presences ≡ c ∷ u.presences = sym m.first ∙ n.first in
    let f : b ≡ c = cc in
    let g : t.presences ≡ u.presences = cc in (f, m.same ∙ ap (λ q. record s { presences = q }) g ∙ sym n.same)

-- a value in an open type is one (X.691 11.2)
one_open : (a : Settings) (c : Schema) (v w : Value) → Agree (v ≡ w) (OpenOf a (basic a c) v) (OpenOf a (basic a c) w)
one_open a c v w = open_agree a (Fills a (basic a c v)) (Fills a (basic a c w))
    (λ os x y. fills_agree a os (one_reading a c v w) x y)

-- one addition, or none, and one state after it
one_addition : (c : Schema) (s : State) (v w : Option Value) (t u : State) → Adds c s v t → Adds c s w u
    → (v ≡ w) × (t ≡ u)
one_addition c s (Some v) (Some w) t u h k =
    let m = (asks_agree s (Some true) (Some true) h.middle k.middle h.asks k.asks).1 in
    let r = took_agree (one_open (settings_of s) c v w)
    (subst (λ (z : State). Took (OpenOf (settings_of s) (basic (settings_of s) c) v) z.bits t.bits) m h.took)
    k.took in
    (ap Some r.0, h.same ∙ ap (λ z. with_bits z t.bits) m ∙ ap (λ z. with_bits k.middle z) r.1 ∙ sym k.same)
one_addition c s (Some v) None t u h (inl k) = let e = (asks_agree s (Some true) (Some false) h.middle u h.asks k).0 in
    absurd cc
one_addition c s (Some v) None t u h (inr k) = let e = (asks_agree s (Some true) None h.middle u h.asks k).0 in
    absurd cc
one_addition c s None (Some w) t u (inl h) k = let e = (asks_agree s (Some false) (Some true) t k.middle h k.asks).0 in
    absurd cc
one_addition c s None (Some w) t u (inr h) k = let e = (asks_agree s None (Some true) t k.middle h k.asks).0 in
    absurd cc
one_addition c s None None t u (inl h) (inl k) = (refl, (asks_agree s (Some false) (Some false) t u h k).1)
one_addition c s None None t u (inr h) (inr k) = (refl, (asks_agree s None None t u h k).1)
one_addition c s None None t u (inl h) (inr k) = (refl, (asks_agree s (Some false) None t u h k).1)
one_addition c s None None t u (inr h) (inl k) = (refl, (asks_agree s None (Some false) t u h k).1)

-- what asking for an addition keeps
pub record Keeps (s t : State) : Type 0 where
  pub live : s.failed ≡ false
  pub failed : t.failed ≡ s.failed
  pub levels : t.levels ≡ s.levels
  pub source : t.source ≡ s.source
  pub refusals : refusal OutOfMemory t ≡ refusal OutOfMemory s

pub asks_keeps : (s : State) (f : Option Bool) (t : State) → Asks s f t → Keeps s t
asks_keeps s f t h = record {
  live = h.live;
  failed = ap (λ z. z.failed) h.same;
  levels = ap (λ z. z.levels) h.same;
  source = ap (λ z. z.source) h.same;
  refusals = ap (λ z. refusal OutOfMemory z) h.same;
}

pub adds_keeps : (c : Schema) (s : State) (v : Option Value) (t : State) → Adds c s v t → Keeps s t
adds_keeps c s (Some v) t h =
    let k = asks_keeps s (Some true) h.middle h.asks in
    record {
      live = k.live;
      failed = ap (λ z. z.failed) h.same ∙ k.failed;
      levels = ap (λ z. z.levels) h.same ∙ k.levels;
      source = ap (λ z. z.source) h.same ∙ k.source;
      refusals = ap (λ z. refusal OutOfMemory z) h.same ∙ k.refusals;
    }
adds_keeps c s None t (inl h) = asks_keeps s (Some false) t h
adds_keeps c s None t (inr h) = asks_keeps s None t h

pub decodes_well : DecodesWell plain_rules
decodes_well = record {
  spelled = reads_well;
  marked = record {
    one = one_mark;
    level = λ s b t m. ap (λ z. z.levels) m.same;
    begun = λ s b t m. m.live;
    left = λ s b t m. ap (λ z. z.failed) m.same ∙ m.live;
    room = λ s b t e m h. h ∙ ap (λ z. refusal OutOfMemory z) m.same;
  };
  added = λ c. record {
    one = one_addition c;
    level = λ s v t h. (adds_keeps c s v t h).levels;
    begun = λ s v t h. (adds_keeps c s v t h).live;
    left = λ s v t h. let k = adds_keeps c s v t h in k.failed ∙ k.live;
    room = λ s v t e h m. m ∙ (adds_keeps c s v t h).refusals;
  };
}
