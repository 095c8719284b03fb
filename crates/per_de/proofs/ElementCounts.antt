-- The elements of a list in front of a further one, and with it, are few for the bits that were taken.
use Rattle.std.proofs.Common.{◌≡◌, refl, ap, ◌∙◌, ℕ, zero, suc, ◌+◌, ◌-◌, ◌*◌, ◌^◌, ◌<◌, ◌≤◌, Bool, true, false, cond, ltb, leb, eqb, List, [], ◌∷◌, ◌++◌, length, arith, inl, inr, Option, Some, None, length-append, ltb-true, leb-true, leb-false, pow_mono}
use Rattle.std.proofs.lemmas.Bool.{cases_lt}
use Rattle.rasn_types.specs.Bits.{Bits, width}
use Rattle.rasn_types.specs.Variants.{Variant, aligned, unaligned}
use Rattle.rasn_types.proofs.Bits.{number_below, width_least}
use Rattle.rasn_constraints.specs.Bounds.{Size}
use Rattle.rasn_constraints.specs.LawfulConstraints.{is_lawful_size}
use Rattle.per_core.specs.Basic.{InOctets, constrained_by}
use Rattle.per_core.specs.Spellings.{Settings, Spelling, Then, AnyPadding, BitField, Took}
use Rattle.per_core.specs.Lengths.{CountOf, count_of, UpTo, UpToFragment, UpToUnconstrained, UpToBetween, UpToSized}
use Rattle.per_core.specs.declared.lengths.Length.{Length}
use Rattle.per_core.specs.declared.lengths.Length.TheVariants.{Last, Fragment}
use Rattle.per_core.specs.ItemCounts.{most_items}
use Rattle.per_core.proofs.LengthCounts.{last_few, fragment_few, then_length}

-- a number below 65536 in its bits
power_few : (w : ℕ) → w ≤ 16 → 2 ^ w ≤ 8192 * w + 1
power_few w h = elim (cases_lt w 1) [
  | inl k ↦ (let e : w ≡ 0 = omega arith in let f : 2 ^ w ≡ 1 = ap (λ (z : ℕ). 2 ^ z) e in omega arith)
  | inr k ↦ elim (cases_lt w 14) [ inl l ↦ (let f : 2 ^ w ≤ 2 ^ 13 = pow_mono {i = w} {j = 13} (omega arith) in omega arith) | inr l ↦ (let f : 2 ^ w ≤ 2 ^ 16 = pow_mono {i = w} {j = 16} h in omega arith) ]
]

field_few : (w n p : ℕ) (b : Bits) → w ≤ 16 → BitField w n p b → n ≤ 8192 * length b
field_few w n p b h x =
    let e : length b ≡ w = x.wide in
    let f : 2 ^ length b ≡ 2 ^ w = ap (λ (z : ℕ). 2 ^ z) e in
    let m = x.means in
    let k = number_below b in
    let l = power_few w h in omega arith

narrow : (n : ℕ) → n ≤ 65536 → width n ≤ 16
narrow n h = width_least n 16 h

padded_few : (a : Settings) (w n p : ℕ) (b : Bits) → w ≤ 16 → Then (AnyPadding a) (BitField w n) p b → n ≤ 8192 * length b
padded_few a w n p b h x = let l = then_length x in let r = field_few w n _ x.rest h x.is_rest in omega arith

constrained_few : (v : Variant) (a : Settings) (n o p : ℕ) (b : Bits) → n ≤ 65536 → constrained_by v a n o p b → o ≤ 8192 * length b
constrained_few unaligned a n o p b h x = field_few (width n) o p b (narrow n h) x
constrained_few aligned a n o p b h x = few_bits (leb n 255) x
  where
    two : (t : Bool) → leb n 65536 ≡ t → cond t (Then (AnyPadding a) (BitField 16 o)) (InOctets a n o) p b → o ≤ 8192 * length b
    two true e y = padded_few a 16 o p b (omega arith) y
    two false e y = let k = leb-false n 65536 e in absurd (omega arith)

    one : (t : Bool) → cond t (Then (AnyPadding a) (BitField 8 o)) (cond (leb n 65536) (Then (AnyPadding a) (BitField 16 o)) (InOctets a n o)) p b → o ≤ 8192 * length b
    one true y = padded_few a 8 o p b (omega arith) y
    one false y = two (leb n 65536) refl y

    few_bits : (t : Bool) → cond t (BitField (width n) o) (cond (eqb n 256) (Then (AnyPadding a) (BitField 8 o)) (cond (leb n 65536) (Then (AnyPadding a) (BitField 16 o)) (InOctets a n o))) p b → o ≤ 8192 * length b
    few_bits true y = field_few (width n) o p b (narrow n h) y
    few_bits false y = one (eqb n 256) y

count_few : (l : Length) (p : ℕ) (b : Bits) → CountOf l p b → count_of l ≤ 8192 * length b
count_few (Last n) p b x = last_few n p b x
count_few (Fragment n) p b x = fragment_few n p b x

module _ {X : Type 0} (a : Settings) (item : X → Spelling) where
  up_to_fragment_few : (k : ℕ) (xs : List X) (p : ℕ) (b : Bits) → UpToFragment a item k xs p b → length xs < 8192 * length b
  up_to_fragment_few zero xs p b x =
      let y = x.spelled in
      let z = y.is_front in
      let l = then_length y in
      let m = then_length z in
      let r = count_few x.counts _ z.rest z.is_rest in
      let f = x.fewer in omega arith
  up_to_fragment_few (suc k) xs p b x =
      let y = x.spelled in
      let z = y.is_rest in
      let w = z.is_rest in
      let l = then_length y in
      let m = then_length z in
      let n = then_length w in
      let e : length xs ≡ length x.these + length x.others = ap length x.all ∙ length-append x.these x.others in
      let h = fragment_few (length x.these) _ z.front z.is_front in
      let r = up_to_fragment_few k x.others _ w.rest w.is_rest in omega arith

  up_to_few : (xs : List X) (p : ℕ) (b : Bits) → UpToUnconstrained a item xs p b → length xs < most_items (length b)
  up_to_few xs p b x = let r = up_to_fragment_few x.fragments xs p b x.spelled in omega arith

  between_few : (lb ub : ℕ) (xs : List X) (p : ℕ) (b : Bits) → lb ≤ ub → ub < 65536 → UpToBetween a lb ub item xs p b → length xs < most_items (length b)
  between_few lb ub xs p b h k x =
      let y = x.spelled in
      let l = then_length y in
      let r = constrained_few a.variant a (ub - lb + 1) (x.count - lb) _ y.front (omega arith) y.is_front.1 in
      let q = y.is_front.0 in
      let f = x.fewer in omega arith

  sized_few : (l u : Option ℕ) (xs : List X) (p : ℕ) (b : Bits) → is_lawful_size l u ≡ true → UpToSized a l u item xs p b → length xs < most_items (length b)
  sized_few None u xs p b h x = up_to_few xs p b x
  sized_few (Some lb) None xs p b h x = up_to_few xs p b x
  sized_few (Some lb) (Some ub) xs p b h x = choose (ltb ub 65536) refl x
    where
      choose : (t : Bool) → ltb ub 65536 ≡ t → cond t (UpToBetween a lb ub item xs) (UpToUnconstrained a item xs) p b → length xs < most_items (length b)
      choose true e y = let k : ub < 65536 = ltb-true ub 65536 e in between_few lb ub xs p b (leb-true lb ub h) k y
      choose false e y = up_to_few xs p b y

  up_to_marked_few : (size : Size) (mark : Bool) (xs : List X) (p : ℕ) (b : Bits) → is_lawful_size size.least size.most ≡ true → UpTo a size mark item xs p b → length xs < most_items (length b)
  up_to_marked_few size false xs p b h x = sized_few size.least size.most xs p b h x
  up_to_marked_few size true xs p b h (inl x) = let l = then_length x in let r = sized_few size.least size.most xs _ x.rest h x.is_rest in omega arith
  up_to_marked_few size true xs p b h (inr x) = let l = then_length x in let r = up_to_few xs _ x.rest x.is_rest in omega arith

  pub took_up_to_few : (size : Size) (mark : Bool) (xs : List X) (s t : Bits) → is_lawful_size size.least size.most ≡ true → Took (UpTo a size mark item xs) s t → length xs < most_items (length s - length t)
  took_up_to_few size mark xs s t h x =
      let r = up_to_marked_few size mark xs _ x.front h x.spelled in
      let l : length s ≡ length x.front + length t = ap length x.joins ∙ length-append x.front t in omega arith

-- with a further one, which is read after them, they are few for the bits that are taken then
pub one_more_few : {X : Type 0} {f : Spelling} (xs : List X) (x : X) (s m t : Bits) → length xs < most_items (length s - length m) → Took f m t → length (xs ++ x ∷ []) ≤ most_items (length s - length t)
one_more_few xs x s m t h k =
    let e : length (xs ++ x ∷ []) ≡ length xs + 1 = length-append xs (x ∷ []) in
    let l : length m ≡ length k.front + length t = ap length k.joins ∙ length-append k.front t in omega arith
