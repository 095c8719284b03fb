-- When two spellings can begin the same bits: then a fact holds, and they are the same bits.
use Rattle.std.proofs.Common.{◌≡◌, refl, sym, ap, ◌∙◌, subst, ℕ, true, false, [], ◌∷◌, ◌++◌, length, append_assoc, arith, inl, inr}
use Rattle.rasn_types.specs.Bits.{Bits, number_of}
use Rattle.per_core.specs.Spellings.{Settings, Spelling, exactly, Then, Either, When, never, AnyPadding, BitField}
use Rattle.per_core.specs.Writers.{after}

pub record Agree (P : Type 0) (f g : Spelling) : Type 0 where
  pub agree : (p : ℕ) (b c s t : Bits) → f p b → g p c → b ++ s ≡ c ++ t → P × (b ≡ c)

pub cancel : (b s t : Bits) → b ++ s ≡ b ++ t → s ≡ t
cancel [] s t e = e
cancel (x ∷ b) s t e = let e' : b ++ s ≡ b ++ t = cc in cancel b s t e'

pub fronts : (b c s t : Bits) → length b ≡ length c → b ++ s ≡ c ++ t → b ≡ c
fronts [] [] s t l e = refl
fronts [] (y ∷ c) s t l e = absurd (omega arith)
fronts (x ∷ b) [] s t l e = absurd (omega arith)
fronts (x ∷ b) (y ∷ c) s t l e =
    let h : x ≡ y = cc in
    let e' : b ++ s ≡ c ++ t = cc in
    let r : b ≡ c = fronts b c s t (omega arith) e' in
    cc

pub weaken : {P Q : Type 0} {f g : Spelling} → (P → Q) → Agree P f g → Agree Q f g
weaken h w = record { agree = λ p b c s t x y e. let r = w.agree p b c s t x y e in (h r.0, r.1) }

pub then_agree : {P Q : Type 0} {f f' g g' : Spelling} → Agree P f f' → (P → Agree Q g g') → Agree (P × Q) (Then f g) (Then f' g')
then_agree {P} {Q} {f} {f'} {g} {g'} w v = record { agree = λ p b c s t x y e. go p b c s t x y e }
  where
    go : (p : ℕ) (b c s t : Bits) → Then f g p b → Then f' g' p c → b ++ s ≡ c ++ t → (P × Q) × (b ≡ c)
    go p b c s t x y e =
        let e1 : x.front ++ (x.rest ++ s) ≡ y.front ++ (y.rest ++ t) = sym (append_assoc x.front x.rest s) ∙ ap (λ z. z ++ s) (sym x.joins) ∙ e ∙ ap (λ z. z ++ t) y.joins ∙ append_assoc y.front y.rest t in
        let r = w.agree p x.front y.front (x.rest ++ s) (y.rest ++ t) x.is_front y.is_front e1 in
        let e2 : x.front ++ (x.rest ++ s) ≡ x.front ++ (y.rest ++ t) = e1 ∙ ap (λ z. z ++ (y.rest ++ t)) (sym r.1) in
        let e3 : x.rest ++ s ≡ y.rest ++ t = cancel x.front (x.rest ++ s) (y.rest ++ t) e2 in
        let y' : g' (after p x.front) y.rest = subst (λ z. g' (after p z) y.rest) (sym r.1) y.is_rest in
        let q = (v r.0).agree (after p x.front) x.rest y.rest s t x.is_rest y' e3 in
        let e4 : b ≡ c = x.joins ∙ ap (λ z. z ++ x.rest) r.1 ∙ ap (λ z. y.front ++ z) q.1 ∙ sym y.joins in
        ((r.0, q.0), e4)

pub either_agree : {P : Type 0} {f f' g g' : Spelling} → Agree P f f' → Agree P f g' → Agree P g f' → Agree P g g' → Agree P (Either f g) (Either f' g')
either_agree {P} {f} {f'} {g} {g'} a1 a2 a3 a4 = record { agree = λ p b c s t x y e. go p b c s t x y e }
  where
    go : (p : ℕ) (b c s t : Bits) → Either f g p b → Either f' g' p c → b ++ s ≡ c ++ t → P × (b ≡ c)
    go p b c s t (inl x) (inl y) e = a1.agree p b c s t x y e
    go p b c s t (inl x) (inr y) e = a2.agree p b c s t x y e
    go p b c s t (inr x) (inl y) e = a3.agree p b c s t x y e
    go p b c s t (inr x) (inr y) e = a4.agree p b c s t x y e

pub when_agree : {P A B : Type 0} {f g : Spelling} → (A → B → Agree P f g) → Agree P (When A f) (When B g)
when_agree w = record { agree = λ p b c s t x y e. (w x.0 y.0).agree p b c s t x.1 y.1 e }

pub never_agree : {P : Type 0} {g : Spelling} → Agree P never g
never_agree = record { agree = λ p b c s t x y e. absurd x }

pub agree_never : {P : Type 0} {f : Spelling} → Agree P f never
agree_never = record { agree = λ p b c s t x y e. absurd y }

pub turned : {P Q : Type 0} {f g : Spelling} → (P → Q) → Agree P f g → Agree Q g f
turned h w = record { agree = λ p b c s t x y e. let r = w.agree p c b t s y x (sym e) in (h r.0, sym r.1) }

-- the same number of bits
pub exactly_agree : (b c : Bits) → length b ≡ length c → Agree (b ≡ c) (exactly b) (exactly c)
exactly_agree b c l = record {
  agree = λ p x y s t e e' u.
      let r : b ≡ c = fronts b c s t l (ap (λ z. z ++ s) (sym e) ∙ u ∙ ap (λ z. z ++ t) e') in
      (r, e ∙ r ∙ sym e');
}

pub empty_agree : Agree (Unit {0}) (exactly []) (exactly [])
empty_agree = weaken (λ e. tt) (exactly_agree [] [] refl)

pub field_agree : (w n m : ℕ) → Agree (n ≡ m) (BitField w n) (BitField w m)
field_agree w n m = record {
  agree = λ p b c s t x y e.
      let r : b ≡ c = fronts b c s t (x.wide ∙ sym y.wide) e in
      (sym x.means ∙ ap number_of r ∙ y.means, r);
}

pub padding_agree : (a : Settings) → Agree (Unit {0}) (AnyPadding a) (AnyPadding a)
padding_agree a = record { agree = λ p b c s t x y e. (tt, fronts b c s t (x.fits ∙ sym y.fits) e) }

-- bits that differ begin nothing together
pub apart : {P : Type 0} (b c : Bits) (f g : Spelling) → length b ≡ length c → (b ≡ c → ⊥) → Agree P (Then (exactly b) f) (Then (exactly c) g)
apart {P} b c f g l d = weaken (λ r. r.1) (then_agree (exactly_agree b c l) (λ e. absurd (d e)))

pub no_yes : {P : Type 0} (f g : Spelling) → Agree P (Then (exactly (false ∷ [])) f) (Then (exactly (true ∷ [])) g)
no_yes f g = apart (false ∷ []) (true ∷ []) f g refl (λ e. cc)

pub yes_no : {P : Type 0} (f g : Spelling) → Agree P (Then (exactly (true ∷ [])) f) (Then (exactly (false ∷ [])) g)
yes_no f g = apart (true ∷ []) (false ∷ []) f g refl (λ e. cc)

-- after the same bits
pub behind : {P : Type 0} (b : Bits) {f g : Spelling} → Agree P f g → Agree P (Then (exactly b) f) (Then (exactly b) g)
behind b w = weaken (λ r. r.1) (then_agree (exactly_agree b b refl) (λ e. w))
