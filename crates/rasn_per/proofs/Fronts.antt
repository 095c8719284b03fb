-- A front of octets is what is read and which octets follow it.
use Rattle.std.proofs.Common.{◌≡◌, inl, inr, refl, sym, ap, ◌∙◌, subst, ℕ, List, [], ◌∷◌, ◌++◌, ◌+◌, ◌*◌, ◌/◌, ◌-◌, ◌≤◌, length, drop, take, length-append, append_assoc, arith}
use Rattle.std.proofs.Math.Seq.{drop-append_seam}
use Rattle.std.proofs.lemmas.List.{take-append-drop, length-take-le}
use Rattle.rasn_types.specs.Bits.{Bits, unpack}
use Rattle.rasn_types.specs.Values.{Value}
use Rattle.rasn_types.specs.Variants.{Variant}
use Rattle.rasn_types.proofs.Bits.{length-unpack, unpack-append}
use Rattle.rasn_schema.specs.Schemas.{Schema}
use Rattle.per_core.specs.Basic.{basic, front}
use Rattle.per_core.specs.Spellings.{bit_offset, Took}
use Rattle.per_core.proofs.Filling.{bit_offset-unpack}
use Rattle.rasn_per.specs.Calls.{basically}
use Rattle.rasn_per.specs.Kinds.{IsRemainder}

-- a list that begins with no more than the first part of another
prefix : (f t xs ys : Bits) → f ++ t ≡ xs ++ ys → length f ≤ length xs → (m : Bits) × (xs ≡ f ++ m)
prefix [] t xs ys e l = (xs, refl)
prefix (b ∷ f) t [] ys e l = absurd (omega arith)
prefix (b ∷ f) t (x ∷ xs) ys e l =
    let h : b ≡ x = cc in
    let g : f ++ t ≡ xs ++ ys = cc in
    let r = prefix f t xs ys g (omega arith) in
    (r.0, ap (λ z. x ∷ z) r.1 ∙ ap (λ z. z ∷ (f ++ r.0)) (sym h))

module _ (a : Variant) (s : Schema) (v : Value) (octets rest : List ℕ) where
  -- what is read, and the octets after it
  pub front_read : (t : Bits) → Took (basic (basically a) s v) (unpack octets) t → IsRemainder (length t) octets rest → front (basically a) s v octets rest
  front_read t k (inl x) = (
    these,
    sym (ap (λ z. these ++ z) x.1 ∙ take-append-drop n octets),
    inl (record {
      front = k.front;
      spare = r.0;
      spelled = subst (λ p. basic (basically a) s v p k.front) (bit_offset-unpack octets) k.spelled;
      all = r.1;
      some = omega (arith, total);
      short = omega (arith, total, wide, ap length r.1, length-append k.front r.0);
      zeros = tt;
    }),
  )
    where
      n : ℕ
      n = length octets - length t / 8

      these : List ℕ
      these = take n octets

      total : length k.front + length t ≡ 8 * length octets
      total = sym (ap length k.joins ∙ length-append k.front t) ∙ length-unpack octets

      wide : length (unpack these) ≡ 8 * n
      wide = length-unpack these ∙ ap (λ z. 8 * z) (length-take-le n octets (omega arith))

      parts : k.front ++ t ≡ unpack these ++ unpack (drop n octets)
      parts = sym k.joins ∙ ap unpack (sym (take-append-drop n octets)) ∙ unpack-append these (drop n octets)

      r : (m : Bits) × (unpack these ≡ k.front ++ m)
      r = prefix k.front t (unpack these) (unpack (drop n octets)) parts (omega (arith, total, wide, x.0))
  front_read t k (inr x) = go k.front k.joins k.spelled
    where
      go : (f : Bits) → unpack octets ≡ f ++ t → basic (basically a) s v (bit_offset (unpack octets)) f → front (basically a) s v octets rest
      go [] e h = (0 ∷ [], x.1, inr (subst (λ p. basic (basically a) s v p []) (bit_offset-unpack octets) h, refl))
      go (b ∷ f) e h = absurd (omega (arith, ap length e, length-append f t, length-unpack octets, x.0))

  -- and back
  pub front_back : front (basically a) s v octets rest → (t : Bits) × Took (basic (basically a) s v) (unpack octets) t × IsRemainder (length t) octets rest
  front_back (these, e, inl x) = (
    x.spare ++ unpack rest,
    record {
      front = x.front;
      joins = ap unpack e ∙ unpack-append these rest ∙ ap (λ z. z ++ unpack rest) x.all ∙ append_assoc x.front x.spare (unpack rest);
      spelled = subst (λ p. basic (basically a) s v p x.front) (sym (bit_offset-unpack octets)) x.spelled;
    },
    inl (omega (arith, left, all, front_length, x.some), sym (ap (λ z. drop z octets) n ∙ ap (λ z. drop (length these) z) e ∙ drop-append_seam these rest)),
  )
    where
      left : length (x.spare ++ unpack rest) ≡ length x.spare + 8 * length rest
      left = length-append x.spare (unpack rest) ∙ ap (λ z. length x.spare + z) (length-unpack rest)

      all : length octets ≡ length these + length rest
      all = ap length e ∙ length-append these rest

      front_length : 8 * length these ≡ length x.front + length x.spare
      front_length = sym (length-unpack these) ∙ ap length x.all ∙ length-append x.front x.spare

      n : length octets - length (x.spare ++ unpack rest) / 8 ≡ length these
      n = omega (arith, left, all, x.short)
  front_back (these, e, inr x) = (
    unpack octets,
    record { front = []; joins = refl; spelled = subst (λ p. basic (basically a) s v p []) (sym (bit_offset-unpack octets)) x.0 },
    inr (length-unpack octets, e ∙ ap (λ z. z ++ rest) x.1),
  )
