-- Short numbers are numbers of their type (X.691 13).
use lib.Signed.{le_z}
use Rattle.std.proofs.Common.{◌≡◌, ◌∙◌, sym, ap, subst, ℕ, ◌-◌, ◌^◌, ◌<◌, ◌&&◌, true, false, inl, arith, List, length, le-leb, leb-true, Option, Some, None, ℤ, pos, negsuc, FitsSigned}
use Rattle.std.specs.Int.{w128}
use Rattle.std.specs.Prelude.{Result, Ok, Err, IfErr}
use Rattle.std.specs.Result.{result_ok}
use Rattle.std.proofs.lemmas.Bool.{lt-ltb}
use Rattle.rasn_types.specs.Bits.{Bits}
use Rattle.rasn_constraints.specs.Bounds.{Bounds, allows, any_size, fits_i128, holds, unbounded}
use Rattle.per_core.specs.Basic.{IsNumberOf, LastCount, Octets}
use Rattle.per_core.specs.Spellings.{Settings, Took, NoneIn}
use Rattle.per_core.proofs.LengthForms.{and_left, and_right}
use Rattle.per_core.proofs.TakenInTurn.{then_took, took_map, took_then}
use Rattle.per_read.specs.OctetFields.{AtOnce}
use Rattle.per_read.specs.Numbers.{between_in_field}
use Rattle.per_core.specs.NumberFaults.{under_bounds}
use Rattle.per_read.proofs.ReadAsField.{no_padding_there}
use Rattle.per_read.proofs.Unbounded.{octets_number}
use Rattle.per_decoding.specs.Integers.{IsShortNumber, short_whole}
use Rattle.per_decoding.proofs.NumbersWithin.{number_within}

-- where an error stands for what isn't answered
pub if_none : {T E : Type 0} (P : E → Type 0) (r : Result T E) {o : Option T} → o ≡ result_ok r → o ≡ None → IfErr r P → (k : E) × P k
if_none P (Ok v) e n h = absurd (let i : Some v ≡ None = sym e ∙ n in cc)
if_none P (Err k) e n h = (k, h)

-- a number between two that an i128 holds
at_most : (u : ℤ) (v : ℕ) → FitsSigned w128 u → le_z (pos v) u ≡ true → v < 2 ^ 127
at_most (pos u) v f h = let k : u < 2 ^ 127 = f.sfits in omega (arith, k, leb-true v u h)
at_most (negsuc u) v f h = absurd (cc)

at_least : (l : ℤ) (v : ℕ) → FitsSigned w128 l → le_z l (negsuc v) ≡ true → v < 2 ^ 127
at_least (negsuc l) v f h = let k : l < 2 ^ 127 = f.sfits in omega (arith, k, leb-true v l h)
at_least (pos l) v f h = absurd (cc)

between_fits : (l u z : ℤ) → FitsSigned w128 l → FitsSigned w128 u → le_z l z ≡ true → le_z z u ≡ true → fits_i128 z ≡ true
between_fits l u (pos v) f g h k = le-leb v (2 ^ 127 - 1) (omega (arith, at_most u v g k))
between_fits l u (negsuc v) f g h k = ap (λ b. b && true) (le-leb v (2 ^ 127 - 1) (omega (arith, at_least l v f h)))

-- of two bounds
module _ (a : Settings) (bounds range : Bounds) (l u : ℤ) (el : Some l ≡ bounds.low) (eu : Some u ≡ bounds.high) where
  in_field : (z : ℤ) {s t : Bits} → Took (IsShortNumber a bounds range z) s t → Took (between_in_field a l u z) s t
  in_field z b = took_map (λ p c x. subst (λ h. short_whole a (Some l) h z p c) (sym eu) (subst (λ y. short_whole a y bounds.high z p c) (sym el) x.spelled)) b

  pub no_field_no_short : {s : Bits} → NoneIn (between_in_field a l u) s → NoneIn (IsShortNumber a bounds range) s
  no_field_no_short none z t b = none z t (in_field z b)

  fits : (z : ℤ) → FitsSigned w128 l → FitsSigned w128 u → holds bounds z ≡ true → fits_i128 z ≡ true
  fits z f g h =
      let i : holds (record { low = Some l; high = Some u }) z ≡ true = subst (λ y. holds (record { low = Some l; high = y }) z ≡ true) (sym eu) (subst (λ y. holds (record { low = y; high = bounds.high }) z ≡ true) (sym el) h) in
      between_fits l u z f g (and_left (le_z l z) (le_z z u) i) (and_right (le_z l z) (le_z z u) i)

  number_of_short : FitsSigned w128 l → FitsSigned w128 u → (z : ℤ) {s t : Bits} → Took (IsShortNumber a bounds range z) s t → Took (IsNumberOf a bounds false range z) s t
  number_of_short f g z {s} {t} b =
      let c : Took (under_bounds a (Some l) (Some u) z) s t = took_map (λ p c x. (x.0, x.1.1)) (in_field z b) in
      let d : Took (under_bounds a bounds.low bounds.high z) s t = subst (λ y. Took (under_bounds a bounds.low y z) s t) eu (subst (λ y. Took (under_bounds a y (Some u) z) s t) el c) in
      number_within a bounds range z d (fits z f g b.spelled.within) b.spelled.within b.spelled.in_range

  pub no_number_no_short : {s : Bits} → FitsSigned w128 l → FitsSigned w128 u → NoneIn (IsNumberOf a bounds false range) s → NoneIn (IsShortNumber a bounds range) s
  no_number_no_short f g none z t b = none z t (number_of_short f g z b)

-- without bounds
module _ (a : Settings) (range : Bounds) {s : Bits} where
  few_octets : (os : List ℕ) {t : Bits} → Took (AtOnce a os) s t → Took (Octets a os) s t
  few_octets os b =
      let i = b.spelled in
      let q = then_took (record { front = b.front; joins = b.joins; spelled = i.spelled }) in
      let n : length os < 128 = omega (arith, i.few) in
      let count : Took (LastCount (length os)) s q.0 = took_map (λ p c x. inl (n, x)) q.1 in
      let allowed : allows any_size (length os) ≡ true = lt-ltb (length os) (2 ^ 64) (omega (arith, n)) in
      took_map (λ p c x. record { allowed = allowed; spelled = record { fragments = 0; spelled = x } }) (took_then (no_padding_there i.unpadded) (took_then count q.2))

  pub no_octets_no_short : NoneIn (AtOnce a) s → NoneIn (IsShortNumber a unbounded range) s
  no_octets_no_short none z t b = let x = b.spelled.spelled in none x.octets t (record { front = b.front; joins = b.joins; spelled = x.spelled })

  pub no_whole_no_short : NoneIn (IsNumberOf a unbounded false range) s → NoneIn (IsShortNumber a unbounded range) s
  no_whole_no_short none z t b =
      let x = b.spelled.spelled in
      let q : Took (AtOnce a x.octets) s t = record { front = b.front; joins = b.joins; spelled = x.spelled } in
      none z t (octets_number a range z x.octets s t (few_octets x.octets q) x.spelled.some x.means b.spelled.in_range)
