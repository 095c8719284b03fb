-- An extensible constraint's bit, and what is after it.
use Rattle.std.proofs.Common.{◌≡◌, ◌∙◌, sym, subst, Bool, true, false, [], ◌∷◌, ◌⊎◌, inl, inr}
use Rattle.rasn_types.specs.Bits.{Bits}
use Rattle.per_core.specs.Spellings.{Spelling, exactly, Then, Took, NoneIn}
use Rattle.per_core.specs.Basic.{Marked}
use Rattle.per_core.proofs.TakenInTurn.{took_then, then_took, took_bit}
use Rattle.per_read.proofs.Fields.{exactly_took, either_took}

pub after_bit : {f : Spelling} {s m : Bits} (b : Bool) → s ≡ b ∷ m → (t : Bits) → Took f m t → Took (Then (exactly (b ∷ [])) f) s t
after_bit {f} {s} {m} b e t c = took_then (subst (λ y. Took (exactly (b ∷ [])) y m) (sym e) (took_bit b m)) c

pub bit_after : {f : Spelling} {s m : Bits} (b d : Bool) → s ≡ b ∷ m → (t : Bits) → Took (Then (exactly (d ∷ [])) f) s t → (b ≡ d) × Took f m t
bit_after {f} {s} {m} b d e t c =
    let q = then_took c in
    let i : b ∷ m ≡ d ∷ q.0 = sym e ∙ exactly_took q.1 in
    let j : b ≡ d = cc in
    let h : q.0 ≡ m = cc in (j, subst (λ y. Took f y t) h q.2)

module _ {X : Type 0} (f g : X → Spelling) {s m : Bits} where
  pub mark_in : s ≡ false ∷ m → (x : X) (t : Bits) → Took (f x) m t → Took (Marked true f g x) s t
  mark_in e x t c = let v = after_bit false e t c in record { front = v.front; joins = v.joins; spelled = inl v.spelled }

  pub mark_past : s ≡ true ∷ m → (x : X) (t : Bits) → Took (g x) m t → Took (Marked true f g x) s t
  mark_past e x t c = let v = after_bit true e t c in record { front = v.front; joins = v.joins; spelled = inr v.spelled }

  pub in_mark : s ≡ false ∷ m → (x : X) (t : Bits) → Took (Marked true f g x) s t → Took (f x) m t
  in_mark e x t c = go (either_took c)
    where
      go : Took (Then (exactly (false ∷ [])) (f x)) s t ⊎ Took (Then (exactly (true ∷ [])) (g x)) s t → Took (f x) m t
      go (inl d) = (bit_after false false e t d).1
      go (inr d) = let i = (bit_after false true e t d).0 in absurd (cc)

  pub past_mark : s ≡ true ∷ m → (x : X) (t : Bits) → Took (Marked true f g x) s t → Took (g x) m t
  past_mark e x t c = go (either_took c)
    where
      go : Took (Then (exactly (false ∷ [])) (f x)) s t ⊎ Took (Then (exactly (true ∷ [])) (g x)) s t → Took (g x) m t
      go (inl d) = let i = (bit_after true false e t d).0 in absurd (cc)
      go (inr d) = (bit_after true true e t d).1

pub no_mark : {X : Type 0} (f g : X → Spelling) {s : Bits} → s ≡ [] → NoneIn (Marked true f g) s
no_mark f g {s} e x t c = go (either_took c)
  where
    none : {h : Spelling} (b : Bool) → Took (Then (exactly (b ∷ [])) h) s t → ⊥
    none b d = let q = then_took d in let i : [] ≡ b ∷ q.0 = sym e ∙ exactly_took q.1 in cc

    go : Took (Then (exactly (false ∷ [])) (f x)) s t ⊎ Took (Then (exactly (true ∷ [])) (g x)) s t → ⊥
    go (inl d) = none false d
    go (inr d) = none true d
