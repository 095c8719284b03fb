-- What calls read has few items, in the words of the calls.
use Rattle.std.proofs.Common.{◌≡◌, refl, ap, subst, ℕ, ◌-◌, ◌⊎◌, true, length, inl, inr, Option, Some, Result, Ok}
use Rattle.rasn_types.specs.Values.{Value}
use Rattle.rasn_schema.specs.Schemas.{Presence, default, Schema}
use Rattle.rasn_traits.specs.Optionals.{MakesDefault, ReadsDefault}
use Rattle.rasn_traits.specs.Presences.{left_out}
use Rattle.rasn_traits.specs.Scopes.{ReadsPart, reads_required, reads_there, reads_left_out}
use Rattle.per_core.specs.ItemCounts.{most_items}
use Rattle.per_core.proofs.ItemsWithin.{Few}
use Rattle.per_decoding.specs.Rules.{decoder_rules}
use Rattle.per_decoding.specs.Additions.{Adds, AddsValue}
use Rattle.per_decoding.specs.State.{State, Spells, Marks, noting}

-- a value's own items, and those of each value within it
few_of : (c : Schema) (s : State) (v : Value) (t : State) → Spells c s v t → Few (most_items (length s.bits - length t.bits)) c v
few_of c s v t h = (h.few, h.within)

-- after a presence bit all bits are left that were left before it
marks_no_bits : (s m : State) → Marks s true m → length m.bits ≡ length s.bits
marks_no_bits s m h = ap (λ z. length z.bits) h.same

-- few items, or a default that stands for an absent part
abbrev pub FewOrLeftOut : Presence → Schema → State → Value → State → Type 0
FewOrLeftOut p c s v t = Few (most_items (length s.bits - length t.bits)) c v ⊎ (left_out p ≡ Some (Some v))

pub part_few : (p : Presence) (c : Schema) (s : State) (r : Option Value) (t : State) (v : Value) → ReadsPart decoder_rules p c s r t → r ≡ Some v → FewOrLeftOut p c s v t
part_few _ c s _ t v (reads_required {v = w} h) e =
    let f : w ≡ v = cc in inl (subst (λ z. Few (most_items (length s.bits - length t.bits)) c z) f (few_of c (noting s) w t h))
part_few p c s _ t v (reads_there {m = m} {v = w} l b h) e =
    let f : w ≡ v = cc in
    let n = marks_no_bits s m b in
    inl (subst (λ z. Few (most_items (length s.bits - length t.bits)) c z) f (subst (λ (k : ℕ). Few (most_items (k - length t.bits)) c w) n (few_of c (noting m) w t h)))
part_few p c s r t v (reads_left_out l b) e = inr (cc)

pub default_few : {T A : Type 0} (c : Schema) (value : T → Value) (returns : Result T A → Type 0) (s t : State) (x : T) (d : Value) → MakesDefault value d returns →
    ReadsDefault decoder_rules c value returns s (Ok x) t → Few (most_items (length s.bits - length t.bits)) c (value x) ⊎ (value x ≡ d)
default_few c value returns s t x d m h = go (part_few (default d) c s (Some (value x)) t (value x) (h.law d m) refl)
  where
    go : FewOrLeftOut (default d) c s (value x) t → Few (most_items (length s.bits - length t.bits)) c (value x) ⊎ (value x ≡ d)
    go (inl k) = inl k
    go (inr e) = let f : ◌≡◌ {A = Option (Option Value)} (Some (Some d)) (Some (Some (value x))) = e in inr (cc)

-- an addition
value_added_few : (c : Schema) (s : State) (v : Value) (t : State) → AddsValue c s v t → Few (most_items (length s.bits - length t.bits)) c v
value_added_few c s v t h = (h.few, h.within)

pub added_few : (c : Schema) (s : State) (r : Option Value) (t : State) (v : Value) → Adds c s r t → r ≡ Some v → Few (most_items (length s.bits - length t.bits)) c v
added_few c s r t v h e = value_added_few c s v t (subst (λ z. Adds c s z t) e h)

-- one of two facts, or another
pub own_or : {A B Q : Type 0} → (A × B) ⊎ Q → A ⊎ Q
own_or (inl f) = inl f.0
own_or (inr q) = inr q

pub within_or : {A B Q : Type 0} → (A × B) ⊎ Q → B ⊎ Q
within_or (inl f) = inl f.1
within_or (inr q) = inr q
