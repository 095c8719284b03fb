-- A value in octets: what is written of it is written of what contains it.
use Rattle.std.proofs.Common.{◌≡◌, refl, subst, ℕ, inl, inr}
use Rattle.std.specs.Prelude.{Result, Ok, Err}
use Rattle.rasn_types.specs.Values.{Value}
use Rattle.rasn_schema.specs.Normal.{normal, AtDepths}
use Rattle.rasn_schema.specs.Schemas.{Schema}
use Rattle.rasn_traits.specs.Calls.{EncoderRules, Written}
use Rattle.rasn_traits.specs.Contents.{ClosesContents, PassesContents}

normal_contained : (s : Schema) (v : Value) → normal s v ≡ normal (Schema.containing s) v
unfolding normal
normal_contained s v = refl

-- at each depth that holds a value, a call writes what contains it, or refuses it
abbrev pub WrittenIn : {E X : Type 0} → EncoderRules E X → (ℕ → Schema) → ℕ → Value → X → Result (Unit {0}) E → X → Type 0
WrittenIn rules schema k v x result y = AtDepths (λ n. Schema.containing (schema n)) k (λ s. Written rules s (normal s v) x result y)

module _ {E X O : Type 0} (rules : EncoderRules E X) (opens : X → O → X → Type 0) (schema : ℕ → Schema) (k : ℕ) (v : Value) (x : X) where
  pub value_refused : (e : E) (i j y : X) → PassesContents rules x i → AtDepths schema k (λ s. Written rules s (normal s v) i (Err e) j) → WrittenIn rules schema k v x (Err e) y
  value_refused e i j y p h = record { at = λ n l. go n (h.at n l) }
    where
      go : (n : ℕ) → Written rules (schema n) (normal (schema n) v) i (Err e) j → Written rules (Schema.containing (schema n)) (normal (Schema.containing (schema n)) v) x (Err e) y
      go n (inl m) = inl (p.room e m)
      go n (inr r) = inr (subst (λ w. rules.refuses e x (Schema.containing (schema n)) w) (normal_contained (schema n) v) (p.of_contents e (schema n) _ r))

  pub value_written : (u : Unit {0}) (i j y : X) (o : O) (result : Result (Unit {0}) E) → opens x o i → AtDepths schema k (λ s. Written rules s (normal s v) i (Ok u) j) → ClosesContents rules opens o j result y
      → WrittenIn rules schema k v x result y
  value_written u i j y o result w h c = record {
    at = λ n l. subst (λ z. Written rules (Schema.containing (schema n)) z x result y) (normal_contained (schema n) v) (c.law x i (schema n) _ w (h.at n l));
  }
