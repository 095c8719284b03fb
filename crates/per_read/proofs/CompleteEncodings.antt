-- A complete encoding is what is read and how it ends, whatever spells it, under either setting (X.691 11.1).
use Rattle.std.proofs.Common.{◌≡◌, inl, inr, refl, sym, ap, ◌∙◌, subst, ℕ, List, [], ◌∷◌, ◌++◌, length, length-append, arith}
use Rattle.rasn_types.specs.Bits.{Bits, AreOctets, unpack}
use Rattle.per_core.specs.Basic.{Fills}
use Rattle.per_core.specs.Ends.{Ends}
use Rattle.per_core.specs.Spellings.{Settings, Spelling, Took}
use Rattle.per_core.proofs.Filling.{bit_offset-unpack, zero_octet}
use Rattle.per_read.specs.Ends.{EndsAs}

-- what is read of some octets and ends so fills them
pub fills_took : (a : Settings) (f : Spelling) (os : List ℕ) (t : Bits) → AreOctets os → Took f (unpack os) t → EndsAs a t (length (unpack os)) → Fills a f os
fills_took a f os t h k e = go k.front k.joins (subst (λ p. f p k.front) (bit_offset-unpack os) k.spelled) e
  where
    go : (b : Bits) → unpack os ≡ b ++ t → f 0 b → Ends a.strict t (length (unpack os)) → Fills a f os
    go b w x (inl y) = inl (record { front = b; spare = t; spelled = x; all = w; some = omega (arith, ap length w, length-append b t, y.1); short = y.0; zeros = y.2 })
    go [] w x (inr y) = inr (x, zero_octet os h (w ∙ y.1))
    go (c ∷ b) w x (inr y) = absurd (omega (arith, ap length w, length-append b t, y.0))

-- and back
pub took_fills : (a : Settings) (f : Spelling) (os : List ℕ) → Fills a f os → (t : Bits) × Took f (unpack os) t × EndsAs a t (length (unpack os))
took_fills a f os (inl x) = (
  x.spare,
  record { front = x.front; joins = x.all; spelled = subst (λ p. f p x.front) (sym (bit_offset-unpack os)) x.spelled },
  inl (x.short, omega (arith, ap length x.all, length-append x.front x.spare, x.some), x.zeros),
)
took_fills a f os (inr x) = (
  unpack os,
  record { front = []; joins = refl; spelled = subst (λ p. f p []) (sym (bit_offset-unpack os)) x.0 },
  inr (refl, ap unpack x.1),
)
