-- How the law of an addition follows from those of its open type and of its value, over any encoder.
use Rattle.std.proofs.Common.{◌≡◌, refl, ap, ◌∙◌, ℕ, zero, suc, ◌⊎◌, inl, inr, Bool, true, false, Result, Ok, Err, Option, Some, None}
use Rattle.rasn_types.specs.Values.{Value}
use Rattle.rasn_schema.specs.Lawful.{is_group_schema}
use Rattle.std.specs.Prelude.{is_some}
use Rattle.rasn_schema.specs.Normal.{is_vacant, normal, settle}
use Rattle.rasn_schema.specs.Records.{record_at}
use Rattle.rasn_schema.specs.Schemas.{group, listed, Parts, Schema}
use Rattle.rasn_traits.specs.Additions.{AdditionClosed, AdditionWritten, ClosesAddition, presents_added, presents_skipped, refuses_added, refuses_inside, refuses_skipped, refuses_surplus, WrittenAddition}
use Rattle.rasn_traits.specs.Calls.{EncoderRules, PresentsWell, Written}
use Rattle.rasn_traits.specs.Contents.{ClosesContents, PassesContents}
use Rattle.rasn_traits.specs.Counted.{IsGroupOf}
use Rattle.rasn_dynamic_codec.specs.OneAddition.{normal_addition}
use Rattle.rasn_dynamic.specs.Values.{there}

-- a record is a group's schema at each depth
pub record_is_group : {schema : ℕ → Schema} (parts : ℕ → Parts) (marker : Bool) (additions : ℕ → Parts) → schema ≡ record_at listed parts marker additions → (n : ℕ) → is_group_schema (schema n) ≡ true
record_is_group parts marker additions e n = ap (λ f. is_group_schema (f n)) e ∙ at_each n
  where
    at_each : (m : ℕ) → is_group_schema (record_at listed parts marker additions m) ≡ true
    at_each zero = refl
    at_each (suc m) = refl

module _ {E X : Type 0} (rules : EncoderRules E X) (L : PresentsWell rules) where
  -- a value that is refused inside its open type
  pub value_refused : (s : Schema) (v : Value) (x i j y : X) (e : E) → rules.begins x i → Written rules s v i (Err e) j → AdditionWritten rules s v x (Err e) y
  value_refused s v x i j y e b (inl m) = inl (L.begin_room x i e b m)
  value_refused s v x i j y e b (inr q) = inr (refuses_inside b q)

  -- a value that was presented inside
  pub value_closed : {O : Type 0} (opens : X → O → X → Type 0) (s : Schema) (v : Value) (x i j : X) (o : O) → opens x o i → rules.presents i s v j
      → (r : Result (Unit {0}) E) (y : X) → ClosesAddition rules opens o j r y → AdditionWritten rules s v x r y
  value_closed opens s v x i j o a w (Ok u) y f = f.law x i s v a w
  value_closed opens s v x i j o a w (Err e) y f = inl (f.law x i s v a w)

  -- a group that is one addition too many
  pub group_surplus : (s : Schema) (v : Value) (x y : X) (e : E) → rules.memory e x ⊎ rules.surplus e x → WrittenAddition rules group s (settle group s v) x (Err e) y
  unfolding settle
  group_surplus s v x y e (inl m) = inl m
  group_surplus s v x y e (inr q) = of_vacant (is_vacant s v) refl
    where
      of_vacant : (c : Bool) → is_vacant s v ≡ c → WrittenAddition rules group s (settle group s v) x (Err e) y
      of_vacant true h = rw h (inr (refuses_skipped refl q))
      of_vacant false h = rw h (inr (refuses_added refl (refuses_surplus q)))

  -- a group that is refused inside its open type: it holds something
  pub group_refused : (s : Schema) (v : Value) (x i j y : X) (e : E) → is_group_schema s ≡ true → rules.begins x i → Written rules s v i (Err e) j → WrittenAddition rules group s (settle group s v) x (Err e) y
  unfolding settle
  group_refused s v x i j y e g b (inl m) = inl (L.begin_room x i e b m)
  group_refused s v x i j y e g b (inr q) = of_vacant (is_vacant s v) refl
    where
      of_vacant : (c : Bool) → is_vacant s v ≡ c → WrittenAddition rules group s (settle group s v) x (Err e) y
      of_vacant true h = absurd (L.vacant x i s v e b g h q)
      of_vacant false h = rw h (inr (refuses_added refl (refuses_inside b q)))

  -- a group that was given
  pub group_closed : (s : Schema) (o : Option Value) (x : X) (r : Result (Unit {0}) E) (y : X) → AdditionClosed rules s o x r y → WrittenAddition rules group s o x r y
  group_closed s (Some v) x (Ok u) y h = presents_added refl h
  group_closed s None x (Ok u) y h = presents_skipped refl h
  group_closed s (Some v) x (Err e) y h = inl h
  group_closed s None x (Err e) y h = inl h

-- a schema that may be a group's
pub is_group_of : (b : Bool) (s : Schema) → IsGroupOf b s → is_group_schema s ≡ true
is_group_of b (Schema.sequence listed ps ext adds) h = refl
is_group_of b Schema.cut h = refl
is_group_of b _ h = absurd h

module _ {E X : Type 0} (rules : EncoderRules E X) where
  -- a group, from what stands for it
  pub settled_written : (s : Schema) (x y : X) (o : Option Value) (r : Result (Unit {0}) E) → is_some o ≡ true → WrittenAddition rules group s (settle group s (normal s (there o))) x r y
      → WrittenAddition rules group s (normal_addition group s o) x r y
  settled_written s x y None r q h = absurd (cc)
  settled_written s x y (Some v) r q h = h

  -- octets that aren't opened
  pub octets_refused : (s : Schema) (v : Value) (x y : X) (e : E) → rules.memory e x ⊎ ((c : Schema) (w : Value) → rules.refuses e x (Schema.containing c) w) → Written rules (Schema.containing s) v x (Err e) y
  octets_refused s v x y e (inl m) = inl m
  octets_refused s v x y e (inr h) = inr (h s v)

  -- a value that is refused within octets
  pub contents_refused : (s : Schema) (v : Value) (x i j y : X) (e : E) → PassesContents rules x i → Written rules s (normal s v) i (Err e) j → Written rules (Schema.containing s) (normal (Schema.containing s) v) x (Err e) y
  unfolding normal
  contents_refused s v x i j y e p (inl m) = inl (p.room e m)
  contents_refused s v x i j y e p (inr h) = inr (p.of_contents e s (normal s v) h)

  -- a value that was presented within octets
  pub contents_closed : {O : Type 0} (opens : X → O → X → Type 0) (s : Schema) (v : Value) (x i j : X) (o : O) → opens x o i → rules.presents i s (normal s v) j
      → (r : Result (Unit {0}) E) (y : X) → ClosesContents rules opens o j r y → Written rules (Schema.containing s) (normal (Schema.containing s) v) x r y
  unfolding normal
  contents_closed opens s v x i j o a w r y f = f.law x i s (normal s v) a w
