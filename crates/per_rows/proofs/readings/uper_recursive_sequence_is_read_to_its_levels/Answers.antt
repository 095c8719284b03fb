use Rattle.std.proofs.Common.{◌≡◌, refl, sym, ap, ◌∙◌, ℕ, zero, suc, List, [], ◌∷◌, ◌++◌, append_assoc, replicate, true, false, Bool, Option, inl, inr}
use Rattle.rasn_types.specs.Bits.{Bits}
use Rattle.rasn_types.specs.Values.{Value}
use Rattle.rasn_schema.specs.Schemas.{optional}
use Rattle.per_core.specs.Spellings.{Spelling, Then, exactly}
use Rattle.per_core.specs.Writers.{after}
use Rattle.per_core.specs.Basic.{Flags, Bodies, basic, basic_in, fills}
use Rattle.per_core.specs.Canon.{bytes}
use Rattle.per_core.proofs.Laws
use Rattle.per_rows.specs.Build.{uper}
use Rattle.per_rows.specs.Samples.{nest, nested}
use Rattle.per_rows.proofs.readings.uper_recursive_sequence_is_read_to_its_levels.Goals as goal

pub returns-clause-levels_128 : goal.returns-clause-levels_128
unfolding bytes
returns-clause-levels_128 c = Laws.written_is_read uper (nest 128) (nested 127) (replicate 15 0xff ++ 0xfe ∷ []) refl

-- the presence bit is first
behind : {d : Bool} {g : Spelling} {p : ℕ} {b : Bits} (x : Then (Then (exactly (d ∷ [])) (exactly [])) g p b) → b ≡ d ∷ x.rest
behind {d} x = x.joins ∙ ap (λ z. z ++ x.rest) (x.is_front.joins ∙ ap (λ z. z ++ x.is_front.rest) x.is_front.is_front ∙ ap (λ z. d ∷ z) x.is_front.is_rest)

-- a root with one optional part, whose value's bits don't begin with n ones, doesn't begin with one more
one_more : (f : Value → Spelling) (n : ℕ) → ((v : Value) (p : ℕ) (b s t : Bits) → f v p b → b ++ s ≡ replicate n true ++ t → ⊥) →
    (shown : List Bool) (ss : List (Option Value)) (p : ℕ) (b s t : Bits) → Then (Flags (record { presence = optional; spells = f } ∷ []) shown) (Bodies (record { presence = optional; spells = f } ∷ []) shown ss) p b →
    b ++ s ≡ true ∷ (replicate n true ++ t) → ⊥
one_more f n h [] ss p b s t x e = x.is_front
one_more f n h (d ∷ d' ∷ ds) ss p b s t x e = x.is_front.is_rest
one_more f n h (d ∷ []) [] p b s t x e = x.is_rest
one_more f n h (d ∷ []) (o ∷ o' ∷ os) p b s t x e = x.is_rest.is_rest
one_more f n h (false ∷ []) (o ∷ []) p b s t x e = let i : false ∷ (x.rest ++ s) ≡ true ∷ (replicate n true ++ t) = sym (ap (λ z. z ++ s) (behind x)) ∙ e in cc
one_more f n h (true ∷ []) (o ∷ []) p b s t x e =
    let y = x.is_rest in
    let i : true ∷ (x.rest ++ s) ≡ true ∷ (replicate n true ++ t) = sym (ap (λ z. z ++ s) (behind x)) ∙ e in
    let j : x.rest ++ s ≡ replicate n true ++ t = cc in
    h y.is_front.held (after p x.front) y.front (y.rest ++ s) t y.is_front.spelled (sym (append_assoc y.front y.rest s) ∙ ap (λ z. z ++ s) (sym y.joins) ∙ j)

too_deep : (n : ℕ) (v : Value) (p : ℕ) (b s t : Bits) → basic uper (nest n) v p b → b ++ s ≡ replicate n true ++ t → ⊥
unfolding basic_in
too_deep zero v p b s t x e = x
too_deep (suc n) v p b s t x e =
    let r = x.spelled.is_front in
    one_more (basic uper (nest n)) n (too_deep n) r.shown x.of.0 p x.spelled.front (x.spelled.rest ++ s) t r.spelled (sym (append_assoc x.spelled.front x.spelled.rest s) ∙ ap (λ z. z ++ s) (sym x.spelled.joins) ∙ e)

refuse : (v : Value) → fills uper (nest 128) v (replicate 16 0xff ++ 0x00 ∷ []) → ⊥
refuse v (inl x) = too_deep 128 v 0 x.front x.spare (replicate 8 false) x.spelled (sym x.all)
refuse v (inr x) = let e : ◌≡◌ {A = List ℕ} (0xff ∷ (replicate 15 0xff ++ 0x00 ∷ [])) (0x00 ∷ []) = x.1 in cc

pub returns-clause-levels_129 : goal.returns-clause-levels_129
returns-clause-levels_129 c v = refuse v
