-- Bits that are taken from the front.
use Rattle.std.proofs.Common.{◌≡◌, ◌<◌, ◌≤◌, ◌⊎◌, inl, inr, refl, sym, ap, ◌∙◌, ℕ, ◌++◌, length, take, drop, length-take, arith}
use Rattle.std.proofs.lemmas.Bool.{cases_lt}
use Rattle.std.proofs.lemmas.List.{take-append-drop}
use Rattle.rasn_types.specs.Bits.{Bits}
use Rattle.per_core.specs.Spellings.{Took, NoneIn}
use Rattle.per_read.specs.Takes.{Front}

-- a front that was taken
pub front_took : {n : ℕ} {bits s t : Bits} → Took (Front n bits) s t → (length bits ≡ n) × (s ≡ bits ++ t)
front_took {t = t} a = (a.spelled.0, a.joins ∙ ap (λ z. z ++ t) a.spelled.1)

-- one that isn't there
pub no_front : {n : ℕ} {s : Bits} → NoneIn (Front n) s → length s < n
no_front {n} {s} none = go (cases_lt (length s) n)
  where
    go : (length s < n) ⊎ (n ≤ length s) → length s < n
    go (inl h) = h
    go (inr h) = absurd (none (take n s) (drop n s) (record {
      front = take n s;
      joins = sym (take-append-drop n s);
      spelled = (length-take n s ∙ omega arith, refl);
    }))
