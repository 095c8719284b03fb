-- Numbers as they are written mean themselves.
use Rattle.std.proofs.Common.{◌≡◌, refl, sym, ap, ◌∙◌, subst, ℕ, ◌+◌, ◌*◌, ◌/◌, ◌%◌, ◌<◌, Bool, true, false, cond, ◌&&◌, ltb, [], ◌∷◌, length, arith, Option, Some, None, ℤ, pos, ltb-true, mod-eq_of_lt, le-leb}
use Rattle.rasn_types.specs.Bits.{Bits, to_bits, number_of, pack, unpack, natural_bits, whole_bits, octets_of_natural}
use Rattle.rasn_types.specs.Bits.{octets_of_whole, unsigned, signed, signed_bits}
use Rattle.rasn_types.proofs.Bits.{length-to_bits, number-to_bits}
use Rattle.rasn_types.proofs.Octets.{length-pack, unpack-pack, length-whole_bits, octets_of_whole_some, signed_bits-whole_bits}
use Rattle.rasn_constraints.specs.Bounds.{holds, fits_i128, above, Bounds, unbounded}
use Rattle.per_core.specs.Basic.{IsSemiConstrainedWhole, IsUnconstrainedWhole, number_spelling, IsNumber, IsNumberOf, Marked, Small}
use Rattle.per_core.specs.Counts.{counted_octets, number_under, number_form, marked_form, small}
use Rattle.per_core.specs.Spellings.{Settings, exactly, Then, BitField}
use Rattle.per_core.specs.Writers.{just, ◌▹◌, written_if}
use Rattle.per_core.proofs.Presenting.{octets_within}
use Rattle.per_core.proofs.WriterSpellings.{Within, just_within, then_within, if_within, relax, left_within, right_within, when_within, field_within, bounded_within, natural_fits}

full_octets : (k : ℕ) (b : Bits) → length b ≡ 8 * k → unpack (pack (length b / 8) b) ≡ b
full_octets k b l = unpack-pack (length b / 8) b (omega arith)

natural_octets : (a : Settings) (n : ℕ) → Within (counted_octets a.variant (natural_bits n)) (IsSemiConstrainedWhole a n)
unfolding counted_octets natural_bits octets_of_natural
natural_octets a n = relax (λ p b x. record { octets = pack (length bits / 8) bits; some = some; means = means; spelled = x }) (octets_within a (pack (length bits / 8) bits))
  where
    bits : Bits
    bits = to_bits (8 * octets_of_natural n) n

    wide : length bits ≡ 8 * octets_of_natural n
    wide = length-to_bits (8 * octets_of_natural n) n

    positive : 0 < octets_of_natural n
    positive = omega arith

    some : 0 < length (pack (length bits / 8) bits)
    some = subst (λ (k : ℕ). 0 < k) (sym (length-pack (length bits / 8) bits)) (let w = wide in let q = positive in omega arith)

    means : unsigned (pack (length bits / 8) bits) ≡ n
    means = ap number_of (full_octets (octets_of_natural n) bits wide) ∙ number-to_bits (8 * octets_of_natural n) n ∙ mod-eq_of_lt (natural_fits n)

pub whole_in_octets : (a : Settings) (z : ℤ) → Within (counted_octets a.variant (whole_bits z)) (IsUnconstrainedWhole a z)
unfolding counted_octets
whole_in_octets a z = relax (λ p b x. record { octets = pack (length (whole_bits z) / 8) (whole_bits z); some = some; means = means; spelled = x }) (octets_within a (pack (length (whole_bits z) / 8) (whole_bits z)))
  where
    some : 0 < length (pack (length (whole_bits z) / 8) (whole_bits z))
    some = subst (λ (k : ℕ). 0 < k) (sym (length-pack (length (whole_bits z) / 8) (whole_bits z))) (omega (arith, length-whole_bits z, octets_of_whole_some z))

    means : signed (pack (length (whole_bits z) / 8) (whole_bits z)) ≡ z
    means = ap signed_bits (full_octets (octets_of_whole z) (whole_bits z) (length-whole_bits z)) ∙ signed_bits-whole_bits z

under_within : (a : Settings) (l u : Option ℤ) (z : ℤ) → Within (number_under a.variant l u z) (number_spelling a l u z)
unfolding number_under
under_within a None None z = whole_in_octets a z
under_within a None (Some u) z = if_within (fits_i128 z) (λ e. when_within e (whole_in_octets a z))
under_within a (Some l) None z = if_within (fits_i128 z) (λ e. when_within e (natural_octets a (above l z)))
under_within a (Some l) (Some u) z = if_within (fits_i128 z) (λ e. when_within e (bounded_within a (above l u + 1) (above l z)))

is_number_within : (a : Settings) (bounds : Bounds) (z : ℤ) → Within (written_if (holds bounds z) (number_under a.variant bounds.low bounds.high z)) (IsNumber a bounds z)
is_number_within a bounds z = if_within (holds bounds z) (λ e. relax (λ p b x. record { within = e; spelled = x }) (under_within a bounds.low bounds.high z))

free_within : (a : Settings) (z : ℤ) → Within (counted_octets a.variant (whole_bits z)) (IsNumber a unbounded z)
free_within a z = relax (λ p b x. record { within = refl; spelled = x }) (whole_in_octets a z)

pub number_within : (a : Settings) (bounds : Bounds) (mark : Bool) (range : Bounds) (z : ℤ) → Within (written_if (holds range z) (number_form a.variant bounds mark z)) (IsNumberOf a bounds mark range z)
unfolding number_form
number_within a bounds mark range z = if_within (holds range z) (λ e. relax (λ p b x. record { in_range = e; spelled = x }) (form mark (holds bounds z) refl))
  where
    form : (mark inside : Bool) → holds bounds z ≡ inside →
        Within (marked_form mark inside (written_if (holds bounds z) (number_under a.variant bounds.low bounds.high z)) (counted_octets a.variant (whole_bits z))) (Marked mark (IsNumber a bounds) (IsNumber a unbounded) z)
    form false inside e = is_number_within a bounds z
    form true true e = left_within (then_within (just_within (false ∷ [])) (is_number_within a bounds z))
    form true false e = right_within (then_within (just_within (true ∷ [])) (free_within a z))

pub small_within : (a : Settings) (i : ℕ) → Within (small a.variant i) (Small a i)
unfolding small
small_within a i = go (ltb i 64) refl
  where
    small_form : i < 64 → Within (just (false ∷ to_bits 6 i)) (Then (exactly (false ∷ [])) (BitField 6 i))
    small_form h = record {
      within = λ p b e. let w = field_within 6 i h in let e' : false ∷ to_bits 6 i ≡ b = cc in
          record { front = false ∷ []; rest = to_bits 6 i; is_front = refl; is_rest = w.within ((p + 1) % 8) (to_bits 6 i) refl; joins = sym e' };
    }

    go : (t : Bool) → ltb i 64 ≡ t → Within (cond t (just (false ∷ to_bits 6 i)) (just (true ∷ []) ▹ number_under a.variant (Some (pos 0)) None (pos i))) (Small a i)
    go true e = left_within (small_form (ltb-true i 64 e))
    go false e = right_within (then_within (just_within (true ∷ [])) (relax (λ p b x. record { within = ap (λ c. c && true) (le-leb 0 i (omega arith)); spelled = x }) (under_within a (Some (pos 0)) None (pos i))))
