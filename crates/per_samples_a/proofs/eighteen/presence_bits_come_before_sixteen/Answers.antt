use Rattle.std.proofs.Common.{◌≡◌, ◌≤◌, ℕ, zero, suc, [], ◌∷◌, Option, Some, None, true, false, arith, refl}
use Rattle.std.specs.Prelude.{pos}
use Rattle.rasn_below.specs.Values.{Value, sequence_value, truth, whole}
use Rattle.rasn_below.specs.Types.{sequence_at, normal, settle}
use Rattle.per_core.specs.Rows.{unaligned, bytes}
use Rattle.per_samples_a.specs.Eighteens.{eighteen}
use Rattle.per_samples_a.proofs.eighteen.presence_bits_come_before_sixteen.Goals as goal

abbrev t : Option Value
t = Some (truth true)

abbrev f : Option Value
f = Some (truth false)

abbrev with_optional : Value
with_optional = sequence_value (t ∷ t ∷ t ∷ t ∷ t ∷ t ∷ t ∷ t ∷ t ∷ t ∷ t ∷ t ∷ t ∷ t ∷ t ∷ t ∷ Some (whole (pos 5)) ∷ Some (whole (pos 3)) ∷ [])

abbrev with_default : Value
with_default = sequence_value (f ∷ f ∷ f ∷ f ∷ f ∷ f ∷ f ∷ f ∷ f ∷ f ∷ f ∷ f ∷ f ∷ f ∷ f ∷ t ∷ None ∷ Some (whole (pos 4)) ∷ [])

there : (n : ℕ) → 1 ≤ n → bytes unaligned (sequence_at eighteen n) (normal (sequence_at eighteen n) with_optional) ≡ Some (0xbf ∷ 0xff ∷ 0xe8 ∷ [])
unfolding bytes normal settle
there zero h = absurd (omega (arith, h))
there (suc n) h = refl

absent : (n : ℕ) → 1 ≤ n → bytes unaligned (sequence_at eighteen n) (normal (sequence_at eighteen n) with_default) ≡ Some (0x40 ∷ 0x00 ∷ 0x60 ∷ [])
unfolding bytes normal settle
absent zero h = absurd (omega (arith, h))
absent (suc n) h = refl

pub returns-clause-there : goal.returns-clause-there
returns-clause-there c = record { at = there }

pub returns-clause-absent : goal.returns-clause-absent
returns-clause-absent c = record { at = absent }
