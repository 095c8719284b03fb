-- Root components of a record, and the additions after them, over any decoder.
use Rattle.std.proofs.Common.{◌≡◌, ℕ, ◌⊎◌, subst, Result, Ok, Err, List, [], Option}
use Rattle.rasn_types.specs.Values.{Value}
use Rattle.rasn_schema.specs.Schemas.{Parts, no_parts}
use Rattle.rasn_traits.specs.AdditionsRead.{FaultyAdditions, ReadsAdditions}
use Rattle.rasn_traits.specs.Calls.{DecoderRules, DecodesWell, Refuses}
use Rattle.rasn_traits.specs.Scopes.{ReadsFields, AnswersParts, AnswersRecord, AreRead, ReadsNoFields, ReadsParts, TakesFields, TakesParts, reads_fields}
use Rattle.rasn_traits.proofs.Reading.{fails_after_root, fails_root, parts_level, plainly_read}

module _ {E S : Type 0} {rules : DecoderRules E S} (L : DecodesWell rules) (parts additions : ℕ → Parts) {s m : S} (rs : List (Option Value))
    (a : ReadsParts rules (parts (rules.levels s)) s rs m) where
  -- both are read, to the levels left
  pub fields_read : (xs : List (Option Value)) (t : S) → ReadsAdditions rules (additions (rules.levels m)) m xs t
      → ReadsFields rules (parts (rules.levels s)) (additions (rules.levels s)) s rs xs t
  fields_read xs t b = reads_fields a (subst (λ n. ReadsAdditions rules (additions n) m xs t) (parts_level L (parts (rules.levels s)) s rs m a) b)

  -- an addition isn't read
  pub addition_unread : {e : E} → rules.memory e m ⊎ Refuses (ReadsAdditions rules (additions (rules.levels m))) (λ e. FaultyAdditions rules e (additions (rules.levels m))) e m
      → rules.memory e s ⊎ ReadsNoFields rules (parts (rules.levels s)) (additions (rules.levels s)) e s
  addition_unread {e} r = fails_after_root L rs m a
      (subst (λ n. rules.memory e m ⊎ Refuses (ReadsAdditions rules (additions n)) (λ e. FaultyAdditions rules e (additions n)) e m) (parts_level L (parts (rules.levels s)) s rs m a) r)

-- the same components and additions
pub fields_taken_as : {S T E : Type 0} {rules : DecoderRules E S} {ps ps' qs qs' : ℕ → Parts} {contents added : T → List (Option Value)} {s : S} {result : Result T E} {t : S}
    → ((n : ℕ) → ps n ≡ ps' n) → ((n : ℕ) → qs n ≡ qs' n) → TakesFields rules ps' qs' contents added s result t → TakesFields rules ps qs contents added s result t
fields_taken_as {rules = rules} {s = s} p q w = record { law = rw (p (rules.levels s), q (rules.levels s)) w.law; fails = w.fails; kept = w.kept }

-- root components alone
plainly_answered : {S T E : Type 0} {rules : DecoderRules E S} (L : DecodesWell rules) (ps : Parts) (contents : T → List (Option Value)) (s : S) (r : Result T E) (t : S)
    → AnswersParts rules ps contents s r t → AnswersRecord rules ps no_parts contents (λ x. []) s r t
unfolding AreRead
plainly_answered L ps contents s (Ok v) t a = plainly_read a
plainly_answered L ps contents s (Err e) t a = fails_root L a

pub plainly_taken : {S T E : Type 0} {rules : DecoderRules E S} (L : DecodesWell rules) {ps : ℕ → Parts} {contents : T → List (Option Value)} {s : S} {result : Result T E} {t : S}
    → TakesParts rules ps contents s result t → TakesFields rules ps (λ n. no_parts) contents (λ x. []) s result t
plainly_taken {rules = rules} L {ps} {contents} {s} {result} {t} w = record {
  law = plainly_answered L (ps (rules.levels s)) contents s result t w.law;
  fails = w.fails;
  kept = w.kept;
}
