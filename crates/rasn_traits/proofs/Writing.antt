-- How the law of a record follows from those of its components and of its scope, over any encoder.
use Rattle.std.proofs.Common.{◌≡◌, refl, ℕ, zero, suc, ◌≤◌, ◌⊎◌, inl, inr, Bool, true, false, Result, Ok, Err, List, [], ◌∷◌, length, Option, Some, None, arith, le_trans}
use Rattle.rasn_types.specs.Values.{Value}
use Rattle.rasn_types.proofs.Values.{slots-as_slots}
use Rattle.rasn_schema.specs.Schemas.{TagTree, Presence, required, listed, by_tag, count, Order, Schema, Parts, no_parts, part}
use Rattle.rasn_schema.specs.Normal.{normal, normals, AtDepths}
use Rattle.rasn_traits.specs.Calls.{EncoderRules, Written, Encodes, PresentsWell}
use Rattle.rasn_schema.specs.Records.{record_at, no_additions, AtParts}
use Rattle.rasn_schema.specs.Structures.{record_value, extended}
use Rattle.rasn_traits.specs.Additions.{PresentsAdditions, presents_no_more, WrittenAdditions}
use Rattle.rasn_traits.specs.Scopes.{PresentsPart, PresentsParts, presents_required, presents_there, presents_left_out, presents_end, presents_next, refuses_required, RefusesParts, refuses_here, refuses_after, WrittenParts, presents_fields, refuses_root, refuses_after_root, WrittenFields, IsCounted, Passes, ClosesWritten, KeepsCodec, WritesAround, deeper_of}
use Rattle.std.proofs.Math.Nat.{le-max_left, le-max_right}

-- a record takes one level
pub at_suc : {schema : ℕ → Schema} {k : ℕ} {P : Schema → Type 0} → ((n : ℕ) → k ≤ n → P (schema (suc n))) → AtDepths schema (suc k) P
at_suc {schema} {k} {P} f = record { at = at_each }
  where
    at_each : (n : ℕ) → suc k ≤ n → P (schema n)
    at_each zero h = absurd (omega arith)
    at_each (suc n) h = f n (omega arith)

-- the normal form of a record has those of its components
pub normal-ordered : (o : Order) (ps : Parts) (marker : Bool) (qs : Parts) (rs xs : List (Option Value)) → normal (Schema.sequence o ps marker qs) (record_value rs xs) ≡ record_value (normals ps rs) (normals qs xs)
unfolding normal
normal-ordered o ps marker qs rs xs = rw (slots-as_slots rs, slots-as_slots xs) refl

-- the same of a SEQUENCE
pub normal-record : (ps : Parts) (marker : Bool) (qs : Parts) (rs xs : List (Option Value)) → normal (extended ps marker qs) (record_value rs xs) ≡ record_value (normals ps rs) (normals qs xs)
normal-record = normal-ordered listed

-- the levels of root components, and those of additions
pub left_levels : (k m n : ℕ) → deeper_of k m ≤ n → k ≤ n
left_levels k zero n h = h
left_levels k (suc m) n h = le_trans (le-max_left k (suc m)) h

pub right_levels : (k m n : ℕ) → deeper_of k m ≤ n → m ≤ n
right_levels k zero n h = omega arith
right_levels k (suc m) n h = le_trans (le-max_right k (suc m)) h

-- normal forms are as many
normals_counted : (ps : Parts) (rs : List (Option Value)) → length rs ≡ count ps → length (normals ps rs) ≡ count ps
unfolding normals
normals_counted no_parts rs e = e
normals_counted (part t p s ps) [] e = absurd (omega arith)
normals_counted (part t p s ps) (None ∷ rs) e = let n = normals_counted ps rs (omega arith) in omega arith
normals_counted (part t p s ps) (Some v ∷ rs) e = let n = normals_counted ps rs (omega arith) in omega arith

counted_normals : (o : Order) (ps : Parts) (rs : List (Option Value)) → IsCounted o ps rs → IsCounted o ps (normals ps rs)
counted_normals listed ps rs e = tt
counted_normals by_tag ps rs e = normals_counted ps rs e

module _ {E X : Type 0} (rules : EncoderRules E X) where
  -- a required component that is refused
  pub required_refused : {t : TagTree} {s : Schema} {ps : Parts} {x : X} {v : Value} {rs : List (Option Value)} {e : E}
      → rules.memory e x ⊎ rules.refuses e x s v → rules.memory e x ⊎ RefusesParts rules e (part t required s ps) x (Some v ∷ rs)
  required_refused (inl m) = inl m
  required_refused (inr h) = inr (refuses_here (refuses_required h))

  -- a required component that is presented, and what comes of those after it
  pub required_written : PresentsWell rules → (t : TagTree) (s : Schema) (ps : Parts) (x m : X) (v : Value) (rs : List (Option Value)) → rules.presents x s v m
      → (r : Result (Unit {0}) E) (y : X) → WrittenParts rules ps rs m r y → WrittenParts rules (part t required s ps) (Some v ∷ rs) x r y
  required_written L t s ps x m v rs a (Ok u) y w = presents_next (presents_required a) w
  required_written L t s ps x m v rs a (Err e) y (inl h) = inl (L.room x s v m e a h)
  required_written L t s ps x m v rs a (Err e) y (inr h) = inr (refuses_after (presents_required a) h)

  -- the last component, required
  pub last_written : (t : TagTree) (s : Schema) (x : X) (v : Value) (r : Result (Unit {0}) E) (y : X) → Written rules s v x r y
      → WrittenParts rules (part t required s no_parts) (Some v ∷ []) x r y
  last_written t s x v (Ok u) y w = presents_next (presents_required w) presents_end
  last_written t s x v (Err e) y w = required_refused w

  -- additions, where there are none
  pub plainly_written : (ps : Parts) (x : X) (rs : List (Option Value)) (r : Result (Unit {0}) E) (y : X) → WrittenParts rules ps rs x r y → WrittenFields rules ps no_parts rs [] x r y
  plainly_written ps x rs (Ok u) y w = presents_fields w presents_no_more
  plainly_written ps x rs (Err e) y (inl m) = inl m
  plainly_written ps x rs (Err e) y (inr h) = inr (refuses_root h)

  -- want of memory after components that were presented, or after additions, is want of memory of the whole
  part_room : PresentsWell rules → (p : Presence) (s : Schema) (x : X) (o : Option Value) (y : X) (e : E) → PresentsPart rules p s x o y → rules.memory e y → rules.memory e x
  part_room L p s x o y e (presents_required {v = v} a) h = L.room x s v y e a h
  part_room L p s x o y e (presents_there {m = m} {v = v} q b a) h = L.mark_room x true m e b (L.room m s v y e a h)
  part_room L p s x o y e (presents_left_out q b) h = L.mark_room x false y e b h

  pub parts_room : PresentsWell rules → (ps : Parts) (x : X) (rs : List (Option Value)) (y : X) (e : E) → PresentsParts rules ps x rs y → rules.memory e y → rules.memory e x
  parts_room L no_parts x rs y e presents_end h = h
  parts_room L (part t p s ps) x (r ∷ rs) y e (presents_next {m = m} a b) h = part_room L p s x r m e a (parts_room L ps m rs y e b h)
  parts_room L (part t p s ps) x [] y e a h = elim a [ ]

  -- root components that were presented, and what comes of the additions after them
  pub after_root : PresentsWell rules → (ps qs : Parts) (x m : X) (rs xs : List (Option Value)) → PresentsParts rules ps x rs m
      → (r : Result (Unit {0}) E) (y : X) → WrittenAdditions rules qs xs m r y → WrittenFields rules ps qs rs xs x r y
  after_root L ps qs x m rs xs a (Ok u) y w = presents_fields a w
  after_root L ps qs x m rs xs a (Err e) y (inl h) = inl (parts_room L ps x rs m e a h)
  after_root L ps qs x m rs xs a (Err e) y (inr h) = inr (refuses_after_root a h)

  -- a root component that is refused
  pub root_refused : (ps qs : Parts) (x : X) (rs xs : List (Option Value)) (e : E) (y : X) → WrittenParts rules ps rs x (Err e) y → WrittenFields rules ps qs rs xs x (Err e) y
  root_refused ps qs x rs xs e y (inl m) = inl m
  root_refused ps qs x rs xs e y (inr h) = inr (refuses_root h)

  -- a record with a component that is refused
  pub record_refused : (order : Order) (parts : ℕ → Parts) (marker : Bool) (additions : ℕ → Parts) (rs xs : List (Option Value)) (k : ℕ) (x i j y : X) (e : E) → ((n : ℕ) → IsCounted order (parts n) rs) → ((n : ℕ) → Passes rules order (parts n) marker (additions n) x i)
      → ((n : ℕ) → k ≤ n → WrittenFields rules (parts n) (additions n) (normals (parts n) rs) (normals (additions n) xs) i (Err e) j)
      → AtDepths (record_at order parts marker additions) (suc k) (λ s. Written rules s (normal s (record_value rs xs)) x (Err e) y)
  record_refused order parts marker additions rs xs k x i j y e counted h w = at_suc (λ n le. rw (normal-ordered order (parts n) marker (additions n) rs xs)
      (elim (w n le) [ inl m ↦ inl ((h n).room e m) | inr q ↦ inr ((h n).of_record e (normals (parts n) rs) (normals (additions n) xs) (counted_normals order (parts n) rs (counted n)) q) ]))

  -- a record whose components were presented
  pub record_closed : {O : Type 0} (opens : Schema → X → O → X → Type 0) (order : Order) (parts : ℕ → Parts) (marker : Bool) (additions : ℕ → Parts) (rs xs : List (Option Value)) (k : ℕ) (x i j : X) (o : O) (u : Unit {0})
      → ((n : ℕ) → opens (Schema.sequence order (parts n) marker (additions n)) x o i)
      → ((n : ℕ) → k ≤ n → WrittenFields rules (parts n) (additions n) (normals (parts n) rs) (normals (additions n) xs) i (Ok u) j)
      → (r : Result (Unit {0}) E) (y : X) → ClosesWritten rules opens order parts marker additions o j r y
      → AtDepths (record_at order parts marker additions) (suc k) (λ s. Written rules s (normal s (record_value rs xs)) x r y)
  record_closed opens order parts marker additions rs xs k x i j o u h w r y f =
      at_suc (λ n le. rw (normal-ordered order (parts n) marker (additions n) rs xs) (f.law x i n (normals (parts n) rs) (normals (additions n) xs) (h n) (w n le)))

  -- the same, where it is one of the root
  pub record_root_refused : (parts : ℕ → Parts) (marker : Bool) (additions : ℕ → Parts) (rs xs : List (Option Value)) (k : ℕ) (x i j y : X) (e : E) → ((n : ℕ) → Passes rules listed (parts n) marker (additions n) x i)
      → ((n : ℕ) → k ≤ n → WrittenParts rules (parts n) (normals (parts n) rs) i (Err e) j)
      → AtDepths (record_at listed parts marker additions) (suc k) (λ s. Written rules s (normal s (record_value rs xs)) x (Err e) y)
  record_root_refused parts marker additions rs xs k x i j y e h w = record_refused listed parts marker additions rs xs k x i j y e (λ n. tt) h
      (λ n le. root_refused (parts n) (additions n) i (normals (parts n) rs) (normals (additions n) xs) e j (w n le))

  -- the same, where it is an addition
  pub record_addition_refused : PresentsWell rules → (parts : ℕ → Parts) (marker : Bool) (additions : ℕ → Parts) (rs xs : List (Option Value)) (k : ℕ) (x i m j y : X) (e : E) → ((n : ℕ) → Passes rules listed (parts n) marker (additions n) x i)
      → ((n : ℕ) → k ≤ n → PresentsParts rules (parts n) i (normals (parts n) rs) m)
      → ((n : ℕ) → k ≤ n → WrittenAdditions rules (additions n) (normals (additions n) xs) m (Err e) j)
      → AtDepths (record_at listed parts marker additions) (suc k) (λ s. Written rules s (normal s (record_value rs xs)) x (Err e) y)
  record_addition_refused L parts marker additions rs xs k x i m j y e h a w = record_refused listed parts marker additions rs xs k x i j y e (λ n. tt) h
      (λ n le. after_root L (parts n) (additions n) i m (normals (parts n) rs) (normals (additions n) xs) (a n le) (Err e) j (w n le))

  -- a record whose root components were presented, and then its additions
  pub record_ended : {O : Type 0} (opens : Schema → X → O → X → Type 0) (parts : ℕ → Parts) (marker : Bool) (additions : ℕ → Parts) (rs xs : List (Option Value)) (k : ℕ) (x i m j : X) (o : O)
      → ((n : ℕ) → opens (extended (parts n) marker (additions n)) x o i)
      → ((n : ℕ) → k ≤ n → PresentsParts rules (parts n) i (normals (parts n) rs) m)
      → ((n : ℕ) → k ≤ n → PresentsAdditions rules (additions n) m (normals (additions n) xs) j)
      → (r : Result (Unit {0}) E) (y : X) → ClosesWritten rules opens listed parts marker additions o j r y
      → AtDepths (record_at listed parts marker additions) (suc k) (λ s. Written rules s (normal s (record_value rs xs)) x r y)
  record_ended opens parts marker additions rs xs k x i m j o h a w =
      record_closed opens listed parts marker additions rs xs k x i j o tt h (λ n le. presents_fields (a n le) (w n le))

-- a call that wrote a record by a function that keeps to its components and to the variant
ordered_around : {E X : Type 0} {rules : EncoderRules E X} {parts : ℕ → Parts} {returns : X → Result (Unit {0}) E → X → Type 0}
    {x y : X} {r : Result (Unit {0}) E} (order : Order) (rs : List (Option Value)) (k : ℕ) → ((n : ℕ) → IsCounted order (parts n) rs)
    → WritesAround rules order parts false no_additions returns x r y
    → ((a : X) (q : Result (Unit {0}) E) (b : X) → returns a q b → AtParts parts k (λ ps. WrittenParts rules ps (normals ps rs) a q b)) → KeepsCodec rules.codec returns
    → Encodes rules (record_at order parts false no_additions) (suc k) (record_value rs []) x r y
unfolding normal
ordered_around {rules = rules} {parts} order rs k counted w s c = record {
  law = w.law rs [] k counted (record { keeps = λ a q b z n le. plainly_written rules (parts n) a (normals (parts n) rs) q b ((s a q b z).at n le) });
  behaves = record { again = w.again; fails = w.fails; kept = w.kept c };
}

-- a SEQUENCE, and a SET, of which as many components as it has are given
pub written_around : {E X : Type 0} {rules : EncoderRules E X} {parts : ℕ → Parts} {returns : X → Result (Unit {0}) E → X → Type 0}
    {x y : X} {r : Result (Unit {0}) E} (rs : List (Option Value)) (k : ℕ) → WritesAround rules listed parts false no_additions returns x r y
    → ((a : X) (q : Result (Unit {0}) E) (b : X) → returns a q b → AtParts parts k (λ ps. WrittenParts rules ps (normals ps rs) a q b)) → KeepsCodec rules.codec returns
    → Encodes rules (record_at listed parts false no_additions) (suc k) (record_value rs []) x r y
written_around rs k w s c = ordered_around listed rs k (λ n. tt) w s c

pub set_around : {E X : Type 0} {rules : EncoderRules E X} {parts : ℕ → Parts} {returns : X → Result (Unit {0}) E → X → Type 0}
    {x y : X} {r : Result (Unit {0}) E} (rs : List (Option Value)) (k : ℕ) → ((n : ℕ) → IsCounted by_tag (parts n) rs)
    → WritesAround rules by_tag parts false no_additions returns x r y
    → ((a : X) (q : Result (Unit {0}) E) (b : X) → returns a q b → AtParts parts k (λ ps. WrittenParts rules ps (normals ps rs) a q b)) → KeepsCodec rules.codec returns
    → Encodes rules (record_at by_tag parts false no_additions) (suc k) (record_value rs []) x r y
set_around rs k counted w s c = ordered_around by_tag rs k counted w s c
