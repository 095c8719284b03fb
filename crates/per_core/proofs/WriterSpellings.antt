-- What a writer writes has a spelling.
use Rattle.std.proofs.Common.{◌≡◌, refl, sym, ap, ◌∙◌, subst, ℕ, suc, ◌+◌, ◌-◌, ◌*◌, ◌/◌, ◌^◌, ◌<◌, ◌≤◌, max, Bool, true, false, cond, leb, ltb, eqb, length, replicate, arith, inl, inr, Option, Some, None, eqb-true, ltb-true, leb-true, mod-eq_of_lt, leb-false, pow_mono, le_trans}
use Rattle.std.proofs.lemmas.Bool.{cases_lt}
use Rattle.std.proofs.lemmas.List.{length-replicate}
use Rattle.rasn_types.specs.Bits.{Bits, number_of, to_bits, width, natural_bits, octets_of_natural}
use Rattle.rasn_types.specs.Variants.{Variant, aligned, unaligned}
use Rattle.rasn_types.proofs.Bits.{length-to_bits, number-to_bits, width_holds, width_least}
use Rattle.per_core.specs.Basic.{InOctets, IsConstrainedWhole}
use Rattle.per_core.specs.Counts.{constrained_whole}
use Rattle.per_core.specs.Spellings.{Settings, ZeroIf, Spelling, exactly, Then, Either, When, AnyPadding, BitField}
use Rattle.per_core.specs.Writers.{after, pad, Writer, just, refused, ◌▹◌, go_on, join, padding, written_if}

pub record Within (w : Writer) (f : Spelling) : Type 0 where
  pub within : (p : ℕ) (b : Bits) → w p ≡ Some b → f p b

pub just_within : (bs : Bits) → Within (just bs) (exactly bs)
just_within bs = record { within = λ p b e. cc }

pub refused_within : {f : Spelling} → Within refused f
refused_within = record { within = λ p b e. absurd (cc) }

pub then_within : {w v : Writer} {f g : Spelling} → Within w f → Within v g → Within (w ▹ v) (Then f g)
then_within {w} {v} {f} {g} h k = record { within = λ p b e. go p b (w p) refl e }
  where
    behind : (p : ℕ) (b x : Bits) (o : Option Bits) → w p ≡ Some x → v (after p x) ≡ o → join x o ≡ Some b → Then f g p b
    behind p b x None i j e = absurd (cc)
    behind p b x (Some y) i j e = record { front = x; rest = y; is_front = h.within p x i; is_rest = k.within (after p x) y j; joins = cc }

    go : (p : ℕ) (b : Bits) (o : Option Bits) → w p ≡ o → go_on o v p ≡ Some b → Then f g p b
    go p b None i e = absurd (cc)
    go p b (Some x) i e = behind p b x (v (after p x)) i refl e

pub if_within : {w : Writer} {f : Spelling} (b : Bool) → (b ≡ true → Within w f) → Within (written_if b w) f
if_within true h = h refl
if_within false h = refused_within

pub cond_within : {w v : Writer} {f g : Spelling} (b : Bool) → (b ≡ true → Within w f) → (b ≡ false → Within v g) → Within (cond b w v) (cond b f g)
cond_within true h k = h refl
cond_within false h k = k refl

pub relax : {w : Writer} {f g : Spelling} → ((p : ℕ) (b : Bits) → f p b → g p b) → Within w f → Within w g
relax h k = record { within = λ p b e. h p b (k.within p b e) }

pub left_within : {w : Writer} {f g : Spelling} → Within w f → Within w (Either f g)
left_within h = record { within = λ p b e. inl (h.within p b e) }

pub right_within : {w : Writer} {f g : Spelling} → Within w g → Within w (Either f g)
right_within h = record { within = λ p b e. inr (h.within p b e) }

pub when_within : {A : Type 0} {w : Writer} {f : Spelling} → A → Within w f → Within w (When A f)
when_within x h = record { within = λ p b e. (x, h.within p b e) }

-- numbers and bits
pub field_within : (w n : ℕ) → n < 2 ^ w → Within (just (to_bits w n)) (BitField w n)
field_within w n h = record {
  within = λ p b e.
      let e' : to_bits w n ≡ b = cc in
      record { wide = ap length (sym e') ∙ length-to_bits w n; means = ap number_of (sym e') ∙ number-to_bits w n ∙ mod-eq_of_lt h };
}

pub zero_if : (z : Bool) (b : Bits) → b ≡ replicate (length b) false → ZeroIf z b
zero_if true b e = e
zero_if false b e = tt

pub padding_within : (a : Settings) → Within (padding a.variant) (AnyPadding a)
padding_within a = record { within = λ p b e. let e' : replicate (pad a.variant p) false ≡ b = cc in record { fits = ap length (sym e') ∙ length-replicate (pad a.variant p) false; zeros = zero_if a.strict b (sym e' ∙ ap (λ (k : ℕ). replicate k false) (sym (ap length (sym e') ∙ length-replicate (pad a.variant p) false))) } }

-- width
pub width-mono : (r n : ℕ) → r ≤ n → width r ≤ width n
width-mono r n h = width_least r (width n) (le_trans h (width_holds n))

-- bounded numbers
pub natural_fits : (o : ℕ) → o < 2 ^ (8 * octets_of_natural o)
unfolding octets_of_natural
natural_fits o =
    let h : o + 1 ≤ 2 ^ width (o + 1) = width_holds (o + 1) in
    let k : width (o + 1) ≤ 8 * max 1 ((width (o + 1) + 7) / 8) = omega arith in
    let l = pow_mono {i = width (o + 1)} {j = 8 * max 1 ((width (o + 1) + 7) / 8)} k in omega arith

natural_within : (o k : ℕ) → suc k ≡ octets_of_natural o → Within (just (natural_bits o)) (BitField (8 * suc k) o)
unfolding natural_bits
natural_within o k e = subst (λ (n : ℕ). Within (just (to_bits (8 * octets_of_natural o) o)) (BitField (8 * n) o)) (sym e) (field_within (8 * octets_of_natural o) o (natural_fits o))

in_octets_within : (a : Settings) (n o : ℕ) → o < n → 65536 < n →
    Within (just (to_bits (width ((width n + 7) / 8)) (octets_of_natural o - 1)) ▹ padding a.variant ▹ just (natural_bits o)) (InOctets a n o)
unfolding octets_of_natural
in_octets_within a n o h l = relax (λ p b x. record { more = octets_of_natural o - 1; spelled = x })
    (then_within (field_within (width ((width n + 7) / 8)) (octets_of_natural o - 1) few) (then_within (padding_within a) (natural_within o (octets_of_natural o - 1) some)))
  where
    some : suc (octets_of_natural o - 1) ≡ octets_of_natural o
    some = omega arith

    wide : 1 ≤ width n
    wide = elim (cases_lt (width n) 1) [ inl m ↦ (let z : width n ≡ 0 = omega arith in let e : 2 ^ width n ≡ 1 = ap (λ (k : ℕ). 2 ^ k) z in let k = width_holds n in absurd (omega arith)) | inr m ↦ m ]

    few : octets_of_natural o - 1 < 2 ^ width ((width n + 7) / 8)
    few = let k : width (o + 1) ≤ width n = width-mono (o + 1) n (omega arith) in
        let q : (width n + 7) / 8 ≤ 2 ^ width ((width n + 7) / 8) = width_holds ((width n + 7) / 8) in
        let w = wide in omega arith

bounded_by_within : (v : Variant) (z : Bool) (n o : ℕ) → Within (constrained_whole v n o) (IsConstrainedWhole (record { variant = v; strict = z }) n o)
unfolding constrained_whole
bounded_by_within unaligned z n o = if_within (ltb o n) (λ e. let h : o < n = ltb-true o n e in
    relax (λ p b x. record { below = h; spelled = x }) (field_within (width n) o (omega (arith, width_holds n))))
bounded_by_within aligned z n o = if_within (ltb o n) (λ e. let h : o < n = ltb-true o n e in
    relax (λ p b x. record { below = h; spelled = x })
    (cond_within (leb n 255) (λ l. field_within (width n) o (omega (arith, width_holds n)))
    (λ l. cond_within (eqb n 256) (λ m. let k : n ≡ 256 = eqb-true n 256 m in then_within (padding_within (record { variant = aligned; strict = z })) (field_within 8 o (omega arith)))
    (λ m. cond_within (leb n 65536) (λ q. let k : n ≤ 65536 = leb-true n 65536 q in then_within (padding_within (record { variant = aligned; strict = z })) (field_within 16 o (omega arith)))
    (λ q. in_octets_within (record { variant = aligned; strict = z }) n o h (leb-false n 65536 q))))))

pub bounded_within : (a : Settings) (n o : ℕ) → Within (constrained_whole a.variant n o) (IsConstrainedWhole a n o)
bounded_within a n o = bounded_by_within a.variant a.strict n o
