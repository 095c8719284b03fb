use Rattle.std.proofs.Common.{refl, ap, lit<, [], ◌∷◌, length, pos, arith}
use Rattle.rasn_types.specs.Values.{Value, whole}
use Rattle.per_core.specs.Basic.{basic, basic_in, Octets}
use Rattle.per_core.specs.Canon.{bytes, canon}
use Rattle.per_core.proofs.SpellingsAgree.{Agree}
use Rattle.per_core.proofs.LengthForms.{same_octets}
use Rattle.per_core.proofs.Presenting.{octets_within}
use Rattle.per_rows.specs.Build.{uper, integer}
use Rattle.per_rows.proofs.Reading.{filled, not_both, no_less}
use Rattle.per_rows.proofs.refusals.uper_integer_refuses_missing_octets.Goals as goal

not_empty : (v : Value) → Agree ⊥ (basic uper integer v) (Octets uper [])
unfolding basic_in
not_empty v = record {
  agree = λ p b c s t x y e.
      let n = x.spelled.spelled.spelled in
      let r = (same_octets uper n.octets []).agree p b c s t n.spelled y e in absurd (omega (arith, ap length r.0, n.some));
}

pub returns-clause-none : goal.returns-clause-none
unfolding canon
returns-clause-none c v = not_both uper (0x00 ∷ []) (not_empty v) (filled uper (octets_within uper []) 8 (0x00 ∷ []) refl (lit< tt) (lit< tt) tt)

pub returns-clause-cut_off : goal.returns-clause-cut_off
unfolding bytes
returns-clause-cut_off c v = no_less uper integer (whole (pos 4096)) v (0x02 ∷ 0x10 ∷ []) 0x00 [] refl
