-- How the law of a SET follows from that of the SEQUENCE of its components in the order of their tags, over any encoder.
use Rattle.std.proofs.Common.{◌≡◌, sym, ap, ◌∙◌, subst, ℕ, suc, inl, inr, Bool, Result, Ok, Err, List, length, Option, arith}
use Rattle.rasn_types.specs.Values.{Value}
use Rattle.rasn_schema.specs.Orders.{canonised, canonised_at, canonised_slots}
use Rattle.rasn_schema.specs.Normal.{normal, normals, AtDepths}
use Rattle.rasn_schema.specs.Records.{record_at}
use Rattle.rasn_schema.specs.Structures.{record_value}
use Rattle.rasn_schema.specs.Schemas.{by_tag, count, listed, Parts, Schema}
use Rattle.rasn_schema.proofs.Canonised.{normals_ordered}
use Rattle.rasn_traits.specs.Calls.{EncoderRules, Written}
use Rattle.rasn_traits.specs.Scopes.{OpenedToWrite}
use Rattle.rasn_traits.specs.Sets.{InTagOrder, SetsWritten}
use Rattle.rasn_traits.proofs.Writing.{at_suc, normal-ordered, normal-record}

-- the normal form of the SEQUENCE is that of the SET, in order
normal_ordered : (ps : Parts) (marker : Bool) (qs : Parts) (rs cs xs : List (Option Value)) → length rs ≡ count ps → cs ≡ canonised_slots ps rs
    → normal (Schema.sequence listed (canonised ps) marker qs) (record_value cs xs)
    ≡ record_value (canonised_slots ps (normals ps rs)) (normals qs xs)
normal_ordered ps marker qs rs cs xs l e =
    ap (λ ss. normal (Schema.sequence listed (canonised ps) marker qs) (record_value ss xs)) e
    ∙ normal-record (canonised ps) marker qs (canonised_slots ps rs) xs
    ∙ ap (λ ss. record_value ss (normals qs xs)) (sym (normals_ordered ps rs l))

module _ {E X : Type 0} (rules : EncoderRules E X) (holds : SetsWritten rules) where
  -- a SET of which the SEQUENCE is written
  written_in_order : (ps : Parts) (marker : Bool) (qs : Parts) (rs xs : List (Option Value)) (x : X) (r : Result (Unit {0}) E) (y : X)
      → Written rules (Schema.sequence listed (canonised ps) marker qs) (record_value (canonised_slots ps rs) xs) x r y
      → Written rules (Schema.sequence by_tag ps marker qs) (record_value rs xs) x r y
  written_in_order ps marker qs rs xs x (Ok u) y w = holds.presented ps marker qs x y rs xs w
  written_in_order ps marker qs rs xs x (Err e) y (inl m) = inl m
  written_in_order ps marker qs rs xs x (Err e) y (inr h) = inr (holds.refused ps marker qs x rs xs e h)

  -- the same of normal forms, at each depth
  pub set_written : (parts : ℕ → Parts) (marker : Bool) (additions : ℕ → Parts) (rs cs xs : List (Option Value)) (k : ℕ) (x : X) (r : Result (Unit {0}) E) (y : X)
      → InTagOrder parts rs cs
      → AtDepths (record_at listed (canonised_at parts) marker additions) (suc k) (λ s. Written rules s (normal s (record_value cs xs)) x r y)
      → AtDepths (record_at by_tag parts marker additions) (suc k) (λ s. Written rules s (normal s (record_value rs xs)) x r y)
  set_written parts marker additions rs cs xs k x r y o a = at_suc (λ n le.
      let ps = parts n in
      let qs = additions n in
      let s = Schema.sequence by_tag ps marker qs in
      let t = Schema.sequence listed (canonised ps) marker qs in
      subst (λ v. Written rules s v x r y) (sym (normal-ordered by_tag ps marker qs rs xs))
      (written_in_order ps marker qs (normals ps rs) (normals qs xs) x r y
      (subst (λ v. Written rules t v x r y) (normal_ordered ps marker qs rs cs xs (o.counted n) (o.placed n)) (a.at (suc n) (omega arith)))))

  -- what isn't opened refuses the SET
  pub set_unopened : {O : Type 0} (opens : Schema → X → O → X → Type 0) (parts : ℕ → Parts) (marker : Bool) (additions : ℕ → Parts) (rs cs xs : List (Option Value)) (k : ℕ) (x : X) (e : E) (i y : X)
      → InTagOrder parts rs cs → OpenedToWrite rules opens listed (canonised_at parts) marker additions x (Err e) i
      → AtDepths (record_at by_tag parts marker additions) (suc k) (λ s. Written rules s (normal s (record_value rs xs)) x (Err e) y)
  set_unopened opens parts marker additions rs cs xs k x e i y o w = set_written parts marker additions rs cs xs k x (Err e) y o (at_suc (λ n le. go n w))
    where
      go : (n : ℕ) → OpenedToWrite rules opens listed (canonised_at parts) marker additions x (Err e) i
          → (let s = Schema.sequence listed (canonised (parts n)) marker (additions n) in Written rules s (normal s (record_value cs xs)) x (Err e) y)
      go n (inl m) = inl m
      go n (inr h) = inr (h n (normal (Schema.sequence listed (canonised (parts n)) marker (additions n)) (record_value cs xs)))
