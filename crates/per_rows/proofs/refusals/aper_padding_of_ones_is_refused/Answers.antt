use Rattle.std.proofs.Common.{◌≡◌, sym, ap, ◌∙◌, subst, ℕ, ◌+◌, ◌%◌, [], ◌∷◌, ◌++◌, append_assoc, length, replicate, true, false, pos, inl, inr}
use Rattle.rasn_types.specs.Bits.{Bits}
use Rattle.rasn_types.specs.Variants.{aligned}
use Rattle.rasn_types.specs.Values.{Value}
use Rattle.rasn_constraints.specs.Bounds.{between}
use Rattle.per_core.specs.Writers.{pad}
use Rattle.per_core.specs.Basic.{basic_in, fills, InOctets}
use Rattle.per_core.specs.Canon.{canon}
use Rattle.per_core.proofs.SpellingsAgree.{fronts, cancel}
use Rattle.per_rows.specs.Build.{aper, zero_padded, integer_in}
use Rattle.per_rows.proofs.refusals.aper_padding_of_ones_is_refused.Goals as goal

-- two bits, and six of padding
padded : (o : ℕ) (front spare rest : Bits) → InOctets (zero_padded aper) 65537 o 0 front → front ++ spare ≡ false ∷ false ∷ (replicate 6 true ++ rest) → ⊥
unfolding canon
padded o front spare rest x e =
    let y = x.spelled in
    let z = y.is_rest in
    let e1 : y.front ++ (y.rest ++ spare) ≡ (false ∷ false ∷ []) ++ (replicate 6 true ++ rest) = sym (append_assoc y.front y.rest spare) ∙ ap (λ k. k ++ spare) (sym y.joins) ∙ e in
    let two : y.front ≡ false ∷ false ∷ [] = fronts y.front (false ∷ false ∷ []) (y.rest ++ spare) (replicate 6 true ++ rest) y.is_front.wide e1 in
    let e2 : y.rest ++ spare ≡ replicate 6 true ++ rest = cancel (false ∷ false ∷ []) (y.rest ++ spare) (replicate 6 true ++ rest) (ap (λ k. k ++ (y.rest ++ spare)) (sym two) ∙ e1) in
    let e3 : z.front ++ (z.rest ++ spare) ≡ replicate 6 true ++ rest = sym (append_assoc z.front z.rest spare) ∙ ap (λ k. k ++ spare) (sym z.joins) ∙ e2 in
    let six : z.front ≡ replicate 6 true = fronts z.front (replicate 6 true) (z.rest ++ spare) rest (z.is_front.fits ∙ ap (λ (k : ℕ). pad aligned ((0 + k) % 8)) y.is_front.wide) e3 in
    let zeros : replicate 6 true ≡ replicate 6 false = subst (λ (k : Bits). k ≡ replicate (length k) false) six z.is_front.zeros in cc

refuse : (v : Value) → fills (zero_padded aper) (integer_in (between (pos 0) (pos 65536))) v (0x3f ∷ 0xfd ∷ []) → ⊥
unfolding basic_in canon
refuse v (inl x) = padded _ x.front x.spare _ x.spelled.spelled.spelled.spelled.1.spelled (sym x.all)
refuse v (inr x) = cc

pub returns : goal.returns
returns c v = refuse v
