-- How the law of a SET follows from that of the SEQUENCE of its components in ascending order of their tags, over any decoder.
use Rattle.std.proofs.Common.{◌≡◌, sym, subst, ℕ, zero, suc, ◌⊎◌, inl, inr, Bool, List, Option}
use Rattle.rasn_types.specs.Values.{Value}
use Rattle.rasn_schema.specs.Orders.{canonised_at, canonised_slots}
use Rattle.rasn_schema.specs.Records.{record_at}
use Rattle.rasn_schema.specs.Structures.{record_value}
use Rattle.rasn_schema.specs.Schemas.{listed, by_tag, Parts, Schema}
use Rattle.rasn_traits.specs.Calls.{DecoderRules, Refuses}
use Rattle.rasn_traits.specs.Sets.{SetsWell}

module _ {S E : Type 0} {rules : DecoderRules E S} (K : SetsWell rules) (parts : ℕ → Parts) (marker : Bool) (additions : ℕ → Parts) where
  -- the SEQUENCE of the components in ascending order of their tags, and the SET, to a number of levels
  abbrev in_turn : ℕ → Schema
  in_turn n = record_at listed (canonised_at parts) marker additions n

  abbrev in_set : ℕ → Schema
  in_set n = record_at by_tag parts marker additions n

  -- a SET is read where that SEQUENCE is
  pub set_ended : {s t : S} (n k : ℕ) (rs cs xs : List (Option Value)) → n ≡ suc k → cs ≡ canonised_slots (parts k) rs
      → rules.spells (in_turn n) s (record_value cs xs) t → rules.spells (in_set n) s (record_value rs xs) t
  set_ended {s} {t} n k rs cs xs l e h =
      subst (λ m. rules.spells (in_set m) s (record_value rs xs) t) (sym l)
      (K.set_read (parts k) marker (additions k) s t rs xs
      (subst (λ z. rules.spells (in_turn (suc k)) s (record_value z xs) t) e (subst (λ m. rules.spells (in_turn m) s (record_value cs xs) t) l h)))

  none_read : (n : ℕ) {e : E} {s : S} → Refuses (rules.spells (in_turn n)) (rules.fault (in_turn n)) e s → Refuses (rules.spells (in_set n)) (rules.fault (in_set n)) e s
  none_read zero r = r
  none_read (suc n) {e} {s} r = record {
    nothing = λ v t h. let q = K.set_back (parts n) marker (additions n) s t v h in r.nothing q.0 t q.1;
    stands = K.in_set (parts n) marker (additions n) s e r.stands;
  }

  -- where that SEQUENCE isn't read, no SET is
  pub set_refused : (n : ℕ) {e : E} {s : S} → rules.memory e s ⊎ Refuses (rules.spells (in_turn n)) (rules.fault (in_turn n)) e s
      → rules.memory e s ⊎ Refuses (rules.spells (in_set n)) (rules.fault (in_set n)) e s
  set_refused n (inl m) = inl m
  set_refused n (inr r) = inr (none_read n r)
