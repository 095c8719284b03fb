-- How the law of a call that puts a value after others follows from that of the call that reads it, over any decoder.
use Rattle.std.proofs.Common.{◌≡◌, refl, ◌∙◌, subst, inl, Result, Ok, Err, List, [], ◌∷◌, ◌++◌}
use Rattle.std.specs.Prelude.{OnOk}
use Rattle.rasn_schema.specs.Schemas
use Rattle.rasn_schema.specs.Schemas.{required, Schema}
use Rattle.rasn_traits.specs.Boxes.{Holds}
use Rattle.rasn_traits.specs.Calls.{DecoderRules, DecodesWell}
use Rattle.rasn_traits.specs.Optionals.{ReadsComponent}
use Rattle.rasn_traits.specs.Scopes.{FaultyPart, ReadsPart}
use Rattle.rasn_traits.proofs.Reading.{part_reads_well}
use Rattle.rasn_dynamic.specs.declared.values.Value.{Value}
use Rattle.rasn_dynamic.specs.Values.{slot_of, value_of}
use Rattle.rasn_dynamic_codec.proofs.Reading.{required_taken, slotted}
use Rattle.rasn_dynamic_codec.specs.Reads.{PutAfter, PutsRead, ReadsValue}

-- what holds of each answer of one call, holds of the one that another puts
pub puts_same : {E S : Type 0} {P Q : Result Value E → S → Type 0} {vs ws : List Value} {r : Result (Unit {0}) E} {t : S} → ((a : Result Value E) → P a t → Q a t) → PutsRead P vs r ws t → PutsRead Q vs r ws t
puts_same f h = record { answer = h.answer; put = h.put; owed = f h.answer h.owed }

module _ {E S : Type 0} {P : Result Value E → S → Type 0} {vs ws : List Value} {t : S} where
  -- nothing was put
  pub put_failed : {e : E} → PutsRead P vs (Err e) ws t → P (Err e) t
  put_failed h = go h.answer h.put h.owed
    where
      go : {e : E} (a : Result Value E) → PutAfter vs a (Err e) ws → P a t → P (Err e) t
      go (Ok v) p w = absurd p
      go (Err x) p w = subst (λ z. P (Err z) t) p w

  -- a value was put
  pub put_done : {u : Unit {0}} → PutsRead P vs (Ok u) ws t → (v : Value) × (ws ≡ vs ++ v ∷ []) × P (Ok v) t
  put_done h = go h.answer h.put h.owed
    where
      go : {u : Unit {0}} (a : Result Value E) → PutAfter vs a (Ok u) ws → P a t → (v : Value) × (ws ≡ vs ++ v ∷ []) × P (Ok v) t
      go (Ok v) p w = (v, p, w)
      go (Err x) p w = absurd p

-- a value that is read is a required component
pub required_read : {E S : Type 0} (rules : DecoderRules E S) (c : Schema) (s t : S) (a : Result Value E) → ReadsValue rules c s a t → ReadsComponent rules required c slot_of s a t
required_read rules c s t a w = record {
  law = slotted rules.memory (λ e. FaultyPart rules e required c) (ReadsPart rules required c) s a t w.value (required_taken rules c s a t w.read.law);
  behaves = w.read.behaves;
}

module _ {E S : Type 0} {rules : DecoderRules E S} (L : DecodesWell rules) where
  -- a value that was read is put after others, or memory runs out
  pub value_put : (c : Schema) (s u t : S) (v : Value) (vs ws : List Value) (r : Result (Unit {0}) E) → ReadsValue rules c s (Ok v) u → Holds rules (λ x. v) v u r t → OnOk r (ws ≡ vs ++ v ∷ [])
      → PutsRead (ReadsValue rules c s) vs r ws t
  value_put c s u t v vs ws (Ok x) h p o = record { answer = Ok v; put = o; owed = rw p.law.1 h }
  value_put c s u t v vs ws (Err e) h p o = record {
    answer = Err e;
    put = refl;
    owed = record {
      read = record {
        law = inl ((L.spelled c).room s (value_of v) u e h.read.law p.law);
        behaves = record { again = λ q. absurd (h.read.behaves.again q); fails = p.fails; kept = p.kept ∙ h.read.behaves.kept };
      };
      value = tt;
    };
  }

  -- and so is a component
  pub component_put : (p : Schemas.Presence) (c : Schema) (s u t : S) (v : Value) (vs ws : List Value) (r : Result (Unit {0}) E) → ReadsComponent rules p c slot_of s (Ok v) u → Holds rules (λ x. v) v u r t
      → OnOk r (ws ≡ vs ++ v ∷ []) → PutsRead (ReadsComponent rules p c slot_of s) vs r ws t
  component_put p c s u t v vs ws (Ok x) h k o = record { answer = Ok v; put = o; owed = rw k.law.1 h }
  component_put p c s u t v vs ws (Err e) h k o = record {
    answer = Err e;
    put = refl;
    owed = record {
      law = inl ((part_reads_well L p c).room s (slot_of v) u e h.law k.law);
      behaves = record { again = λ q. absurd (h.behaves.again q); fails = k.fails; kept = k.kept ∙ h.behaves.kept };
    };
  }
