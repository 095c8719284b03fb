use Rattle.std.proofs.Common.{◌≡◌, refl, sym, ap, ◌∙◌, subst, lit<, [], ◌∷◌, true, false, pos, ℤ, arith}
use Rattle.rasn_types.specs.Values.{Value, whole}
use Rattle.rasn_constraints.specs.Bounds.{holds, above, between, unbounded}
use Rattle.rasn_schema.specs.Schemas.{Schema}
use Rattle.per_core.specs.Spellings.{Then, exactly, BitField}
use Rattle.per_core.specs.Basic.{basic, basic_in, IsNumber}
use Rattle.per_core.specs.Canon.{bytes, canon}
use Rattle.per_core.proofs.SpellingsAgree.{Agree, behind, yes_no, field_agree}
use Rattle.per_core.proofs.Unique.{is_number_agree, fills_agree}
use Rattle.per_core.proofs.WriterSpellings.{just_within, then_within, field_within}
use Rattle.per_core.proofs.Laws
use Rattle.per_rows.specs.Build.{uper, minus, integer_in, extensible_integer}
use Rattle.per_rows.proofs.Reading.{filled, not_both, either_one}
use Rattle.per_rows.proofs.refusals.uper_number_out_of_bounds_is_refused.Goals as goal

-- four bits that are 15
no_code : (z : ℤ) → Agree ⊥ (IsNumber uper (between (pos 1) (pos 10)) z) (BitField 4 15)
unfolding canon
no_code z = record {
  agree = λ p b c s t x y e.
      let n = x.spelled.1 in
      let r = (field_agree 4 (above (pos 1) z) 15).agree p b c s t n.spelled y e in absurd (omega (arith, r.0, n.below));
}

no_root_code : (v : Value) → Agree ⊥ (basic uper (extensible_integer (between (pos 1) (pos 10))) v) (Then (exactly (false ∷ [])) (BitField 4 15))
unfolding basic_in
no_root_code v = record {
  agree = λ p b c s t x y e. (either_one (behind (false ∷ []) (no_code x.of)) (yes_no (IsNumber uper unbounded x.of) (BitField 4 15))).agree p b c s t x.spelled.spelled y e;
}

pub returns-clause-root_code : goal.returns-clause-root_code
returns-clause-root_code c v = not_both uper (0x78 ∷ []) (no_root_code v) (filled uper (then_within (just_within (false ∷ [])) (field_within 4 15 (lit< tt))) 5 (0x78 ∷ []) refl (lit< tt) (lit< tt) tt)

-- the same number under the same bounds, without the range
in_type : (v : Value) → Agree (v ≡ whole (minus 1) × (holds (between (pos 0) (pos 255)) (minus 1) ≡ true))
    (basic uper (Schema.number (between (minus 1) (pos 254)) false (between (pos 0) (pos 255))) v) (basic uper (integer_in (between (minus 1) (pos 254))) (whole (minus 1)))
unfolding basic_in
in_type v = record {
  agree = λ p b c s t x y e.
      let r = (is_number_agree uper (between (minus 1) (pos 254)) x.of y.of).agree p b c s t x.spelled.spelled y.spelled.spelled e in
      let i : minus 1 ≡ y.of = cc in
      let z : x.of ≡ minus 1 = r.0 ∙ sym i in
      ((x.is ∙ ap whole z, subst (λ k. holds (between (pos 0) (pos 255)) k ≡ true) z x.spelled.in_range), r.1);
}

pub returns-clause-past_its_type : goal.returns-clause-past_its_type
unfolding bytes
returns-clause-past_its_type c v h =
    let r = fills_agree uper (0x00 ∷ []) (in_type v) h (Laws.written_is_read uper (integer_in (between (minus 1) (pos 254))) (whole (minus 1)) (0x00 ∷ []) refl) in
    let f : false ≡ true = r.1 in cc
