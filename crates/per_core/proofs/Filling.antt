-- A complete encoding is what is read and how it ends.
use Rattle.std.proofs.Common.{◌≡◌, ◌<◌, inl, inr, refl, sym, ap, ◌∙◌, subst, ℕ, false, List, [], ◌∷◌, ◌++◌, length, replicate, length-append, append-nil, arith}
use Rattle.rasn_types.specs.Bits.{Bits, AreOctets, to_bits, number_of, unpack}
use Rattle.rasn_types.specs.Values.{Value}
use Rattle.rasn_types.proofs.Bits.{length-unpack, number-to_bits}
use Rattle.rasn_schema.specs.Schemas.{Schema}
use Rattle.per_core.specs.Spellings.{Settings, Took, bit_offset}
use Rattle.per_core.specs.Basic.{basic, fills}
use Rattle.per_core.specs.Ends.{Ends}

pub bit_offset-unpack : (os : List ℕ) → bit_offset (unpack os) ≡ 0
bit_offset-unpack os = omega (arith, length-unpack os)

-- one octet of eight zero bits is zero
pub zero_octet : (os : List ℕ) → AreOctets os → unpack os ≡ replicate 8 false → os ≡ 0 ∷ []
zero_octet os h e = go os h e (omega (arith, length-unpack os, ap length e))
  where
    go : (os : List ℕ) → AreOctets os → unpack os ≡ replicate 8 false → length os ≡ 1 → os ≡ 0 ∷ []
    go [] h e l = absurd (omega arith)
    go (o ∷ []) h e l =
        let b : o < 256 = h.0 in
        let n : number_of (to_bits 8 o) ≡ 0 = ap number_of (sym (append-nil (to_bits 8 o)) ∙ e) in
        let z : o ≡ 0 = omega (arith, number-to_bits 8 o) in
        ap (λ (x : ℕ). x ∷ []) z
    go (o ∷ p ∷ os) h e l = absurd (omega arith)

-- what is read of some octets and ends so fills them
pub fills_read : (a : Settings) (s : Schema) (v : Value) (os : List ℕ) (t : Bits) → AreOctets os → Took (basic a s v) (unpack os) t → Ends a.strict t (length (unpack os)) → fills a s v os
fills_read a s v os t h k e = go k.front k.joins (subst (λ p. basic a s v p k.front) (bit_offset-unpack os) k.spelled) e
  where
    go : (f : Bits) → unpack os ≡ f ++ t → basic a s v 0 f → Ends a.strict t (length (unpack os)) → fills a s v os
    go f w x (inl y) = inl (record { front = f; spare = t; spelled = x; all = w; some = omega (arith, ap length w, length-append f t, y.1); short = y.0; zeros = y.2 })
    go [] w x (inr y) = inr (x, zero_octet os h (w ∙ y.1))
    go (b ∷ f) w x (inr y) = absurd (omega (arith, ap length w, length-append f t, y.0))

-- and back
pub fills_back : (a : Settings) (s : Schema) (v : Value) (os : List ℕ) → fills a s v os → (t : Bits) × Took (basic a s v) (unpack os) t × Ends a.strict t (length (unpack os))
fills_back a s v os (inl x) = (
  x.spare,
  record { front = x.front; joins = x.all; spelled = subst (λ p. basic a s v p x.front) (sym (bit_offset-unpack os)) x.spelled },
  inl (x.short, omega (arith, ap length x.all, length-append x.front x.spare, x.some), x.zeros),
)
fills_back a s v os (inr x) = (
  unpack os,
  record { front = []; joins = refl; spelled = subst (λ p. basic a s v p []) (sym (bit_offset-unpack os)) x.0 },
  inr (refl, ap unpack x.1),
)
