use Rattle.std.proofs.Common.{◌≡◌, refl, sym, ap, ◌∙◌, lit<, ℕ, ◌^◌, ◌-◌, List, [], ◌∷◌, ◌++◌, replicate, true, pos, negsuc, ℤ, arith, leb-true}
use Rattle.rasn_types.specs.Bits.{unsigned}
use Rattle.rasn_types.specs.Values.{Value}
use Rattle.rasn_constraints.specs.Bounds.{above, fits_i128}
use Rattle.per_core.specs.Basic.{basic, basic_in, Octets}
use Rattle.per_core.specs.Canon.{canon}
use Rattle.per_core.proofs.SpellingsAgree.{Agree}
use Rattle.per_core.proofs.LengthForms.{same_octets}
use Rattle.per_core.proofs.Presenting.{octets_within}
use Rattle.per_rows.specs.Build.{uper, minus, integer_in, at_least}
use Rattle.per_rows.proofs.Reading.{filled, not_both}
use Rattle.per_rows.proofs.refusals.uper_bounded_number_past_128_bits_is_refused.Goals as goal

no_offset : (l : ℤ) (os : List ℕ) → ((z : ℤ) → unsigned os ≡ above l z → fits_i128 z ≡ true → ⊥) → (v : Value) → Agree ⊥ (basic uper (integer_in (at_least l)) v) (Octets uper os)
unfolding basic_in
no_offset l os h v = record {
  agree = λ p b c s t x y e.
      let n = x.spelled.spelled.spelled in
      let r = (same_octets uper n.1.octets os).agree p b c s t n.1.spelled y e in absurd (h x.of (ap unsigned (sym r.0) ∙ n.1.means) n.0);
}

past : (z : ℤ) → unsigned (replicate 16 0xff) ≡ above (pos 0) z → fits_i128 z ≡ true → ⊥
past (pos n) e h = omega (arith, leb-true n (2 ^ 127 - 1) h, e)
past (negsuc n) e h = cc

past_by_one : (z : ℤ) → unsigned (0x80 ∷ (replicate 14 0x00 ++ 0x01 ∷ [])) ≡ above (minus 1) z → fits_i128 z ≡ true → ⊥
past_by_one (pos n) e h = omega (arith, leb-true n (2 ^ 127 - 1) h, e)
past_by_one (negsuc n) e h = omega (arith, e)

pub returns-clause-natural : goal.returns-clause-natural
unfolding canon
returns-clause-natural c v = not_both uper (0x10 ∷ replicate 16 0xff) (no_offset (pos 0) (replicate 16 0xff) past v)
    (filled uper (octets_within uper (replicate 16 0xff)) 136 (0x10 ∷ replicate 16 0xff) refl (lit< tt) (lit< tt) tt)

pub returns-clause-offset : goal.returns-clause-offset
unfolding canon
returns-clause-offset c v =
    let os = 0x80 ∷ (replicate 14 0x00 ++ 0x01 ∷ []) in
    not_both uper (0x10 ∷ os) (no_offset (minus 1) os past_by_one v) (filled uper (octets_within uper os) 136 (0x10 ∷ os) refl (lit< tt) (lit< tt) tt)
