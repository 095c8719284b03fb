-- The laws of whole encodings.
use Rattle.std.proofs.Common.{◌≡◌, ◌↔◌, refl, sym, ap, ◌∙◌, subst, ℕ, true, false, List, [], ◌∷◌, arith, inl, inr, Option, Some, None, ◌+◌, ◌*◌, ◌<◌, ◌++◌, length, append_assoc, length-append, max, ◌/◌}
use Rattle.rasn_types.specs.Bits.{Bits, unpack, AreOctets}
use Rattle.rasn_types.specs.Values.{Value}
use Rattle.rasn_types.specs.Variants.{Variant}
use Rattle.rasn_types.proofs.Bits.{length-unpack, unpack-append}
use Rattle.rasn_types.proofs.Octets.{length-pack, octets-pack}
use Rattle.rasn_schema.specs.Normal.{normal}
use Rattle.rasn_schema.specs.Schemas.{Schema}
use Rattle.per_core.specs.Basic.{basic, fills, Fills, Fronts, front}
use Rattle.per_core.specs.Canon.{canon, bytes, completed}
use Rattle.per_core.specs.Spellings.{Settings, Spelling}
use Rattle.per_core.specs.Writers.{complete}
use Rattle.per_core.proofs.SpellingsAgree.{Agree}
use Rattle.per_core.proofs.Canonical.{canonical}
use Rattle.per_core.proofs.Positions.{canon_p}
use Rattle.per_core.proofs.Presenting.{unpack-complete}
use Rattle.per_core.proofs.Unique.{fills_agree}
use Rattle.per_core.proofs.Readings.{one_reading}
use Rattle.per_core.proofs.WriterSpellings.{zero_if}
use Rattle.rasn_types.proofs.Codes.{split_at_length}

-- octets are a complete encoding of at most one value
pub one_value : (a : Settings) (s : Schema) (v w : Value) (os : List ℕ) → fills a s v os → fills a s w os → v ≡ w
one_value a s v w os x y = fills_agree a os (one_reading a s v w) x y

-- what is written is read
pub written_is_read : (a : Settings) (s : Schema) (v : Value) (os : List ℕ) → bytes a.variant s v ≡ Some os → fills a s v os
unfolding bytes
written_is_read a s v os e = go (canon a.variant s v 0) refl e
  where
    full : (bs : Bits) → basic a s v 0 bs → fills a s v (complete bs)
    full [] x = inr (x, refl)
    full (b ∷ bs) x = let u = unpack-complete (b ∷ bs) (omega arith) in inl (record { front = b ∷ bs; spare = u.0; spelled = x; all = u.1; some = omega arith; short = u.2; zeros = zero_if a.strict u.0 u.3 })

    go : (o : Option Bits) → canon a.variant s v 0 ≡ o → completed o ≡ Some os → fills a s v os
    go None i e = absurd (cc)
    go (Some bs) i e = let h : complete bs ≡ os = cc in subst (λ z. fills a s v z) h (full bs ((canonical a true s v).within 0 bs i))

-- equal bytes, equal values
pub same_bytes : (a : Variant) (s : Schema) (v w : Value) (os : List ℕ) → bytes a s v ≡ Some os → bytes a s w ≡ Some os → v ≡ w
same_bytes a s v w os e f =
    let z : Settings = record { variant = a; strict = false } in
    one_value z s v w os (written_is_read z s v os e) (written_is_read z s w os f)

-- equal bytes exactly where normal forms are equal
pub same_normal_bytes : (a : Variant) (s : Schema) (v w : Value) (b c : List ℕ) → bytes a s (normal s v) ≡ Some b → bytes a s (normal s w) ≡ Some c → (b ≡ c) ↔ (normal s v ≡ normal s w)
same_normal_bytes a s v w b c e f =
    (λ h. same_bytes a s (normal s v) (normal s w) c (e ∙ ap Some h) f, λ h. bytes_at (sym e ∙ ap (bytes a s) h ∙ f))
  where
    bytes_at : ◌≡◌ {A = Option (List ℕ)} (Some b) (Some c) → b ≡ c
    bytes_at h = cc

-- whole octets, at least one
pub full_octets : (a : Settings) (s : Schema) (v : Value) (os : List ℕ) → bytes a.variant s v ≡ Some os → (0 < length os) × AreOctets os
unfolding bytes
full_octets a s v os e = go (canon a.variant s v 0) e
  where
    go : (o : Option Bits) → completed o ≡ Some os → (0 < length os) × AreOctets os
    go None e = absurd (cc)
    go (Some bs) e = let h : complete bs ≡ os = cc in subst (λ z. (0 < length z) × AreOctets z) h (omega (arith, length-pack (max 1 ((length bs + 7) / 8)) bs), octets-pack (max 1 ((length bs + 7) / 8)) bs)

-- the bits of a front and all that follows
in_front : {f : Spelling} (a : Settings) (os rest : List ℕ) (x : Fronts a f os) → unpack (os ++ rest) ≡ x.front ++ (x.spare ++ unpack rest)
in_front a os rest x = unpack-append os rest ∙ ap (λ z. z ++ unpack rest) x.all ∙ append_assoc x.front x.spare (unpack rest)

-- two readings of fronts of the same octets take the same octets
pub fronts_agree : {P : Type 0} {f g : Spelling} (a : Settings) (os rest os' rest' : List ℕ) → Agree P f g → Fills a f os → Fills a g os' → os ++ rest ≡ os' ++ rest' → P × (os ≡ os') × (rest ≡ rest')
fronts_agree a os rest os' rest' w (inl x) (inl y) e =
    let r = w.agree 0 x.front y.front (x.spare ++ unpack rest) (y.spare ++ unpack rest') x.spelled y.spelled (sym (in_front a os rest x) ∙ ap unpack e ∙ in_front a os' rest' y) in
    let lx : 8 * length os ≡ length x.front + length x.spare = sym (length-unpack os) ∙ ap length x.all ∙ length-append x.front x.spare in
    let ly : 8 * length os' ≡ length y.front + length y.spare = sym (length-unpack os') ∙ ap length y.all ∙ length-append y.front y.spare in
    let lf : length x.front ≡ length y.front = ap length r.1 in
    let sx = x.short in let sy = y.short in
    let q = split_at_length os os' rest rest' (omega arith) e in
    (r.0, q.0, q.1)
fronts_agree a os rest os' rest' w (inl x) (inr y) e =
    let r = w.agree 0 x.front [] (x.spare ++ unpack rest) (unpack (os' ++ rest')) x.spelled y.0 (sym (in_front a os rest x) ∙ ap unpack e) in
    let n : length x.front ≡ 0 = ap length r.1 in
    let s = x.some in absurd (omega arith)
fronts_agree a os rest os' rest' w (inr x) (inl y) e =
    let r = w.agree 0 [] y.front (unpack (os ++ rest)) (y.spare ++ unpack rest') x.0 y.spelled (ap unpack e ∙ in_front a os' rest' y) in
    let n : 0 ≡ length y.front = ap length r.1 in
    let s = y.some in absurd (omega arith)
fronts_agree a os rest os' rest' w (inr x) (inr y) e =
    let r = w.agree 0 [] [] [] [] x.0 y.0 refl in
    let q = split_at_length os os' rest rest' (ap length (x.1 ∙ sym y.1)) e in
    (r.0, q.0, q.1)

-- what is read of a front is one value, and one rest
pub one_front : (a : Settings) (s : Schema) (v w : Value) (octets rest rest' : List ℕ) → front a s v octets rest → front a s w octets rest' → (v ≡ w) × (rest ≡ rest')
one_front a s v w octets rest rest' x y =
    let r = fronts_agree a x.0 rest y.0 rest' (one_reading a s v w) x.2 y.2 (sym x.1 ∙ y.1) in (r.0, r.2)

-- what is written is read back of any octets that begin with it, as nothing else, and with all that follows
pub written_in_front : (a : Settings) (s : Schema) (v : Value) (os rest : List ℕ) → bytes a.variant s v ≡ Some os → front a s v (os ++ rest) rest × ((w : Value) (after : List ℕ) → front a s w (os ++ rest) after → (v ≡ w) × (rest ≡ after))
written_in_front a s v os rest e =
    let x : front a s v (os ++ rest) rest = (os, refl, written_is_read a s v os e) in
    (x, λ w after y. one_front a s v w (os ++ rest) rest after x y)

-- from one position a spelling is of one value, and begins no other
pub one_spelling : (a : Settings) (s : Schema) (v w : Value) (p : ℕ) (b c t r : Bits) → basic a s v p b → basic a s w p c → b ++ t ≡ c ++ r → (v ≡ w) × (b ≡ c)
one_spelling a s v w p b c t r x y e = (one_reading a s v w).agree p b c t r x y e

pub canon_is_basic : (a : Settings) (s : Schema) (v : Value) (p : ℕ) (b : Bits) → canon a.variant s v p ≡ Some b → basic a s v p b
canon_is_basic a s v p b e = (canonical a true s v).within p b e

-- a writer's bits repeat every eight positions
pub eight_writers : (a : Variant) (s : Schema) (v : Value) (p : ℕ) → canon a s v (p + 8) ≡ canon a s v p
eight_writers a s v p = (canon_p a s v).same (p + 8) p (omega arith)
