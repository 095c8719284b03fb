use Rattle.std.proofs.Common.{refl, lit<, [], ◌∷◌}
use Rattle.per_core.specs.Canon.{canon}
use Rattle.per_rows.specs.Build.{aper, uper}
use Rattle.per_rows.proofs.Reading.{filled}
use Rattle.per_rows.proofs.Skipping.{unknown_within}
use Rattle.per_rows.proofs.unknown_additions.unknown_addition_may_hold_any_octets.Goals as goal

pub returns-clause-of_none : goal.returns-clause-of_none
unfolding canon
returns-clause-of_none c = filled uper (unknown_within uper []) 18 (0xc0 ∷ 0x40 ∷ 0x00 ∷ []) refl (lit< tt) (lit< tt) tt

pub returns-clause-of_three : goal.returns-clause-of_three
unfolding canon
returns-clause-of_three c = filled uper (unknown_within uper (0xff ∷ 0xff ∷ 0xff ∷ [])) 42 (0xc0 ∷ 0x40 ∷ 0xff ∷ 0xff ∷ 0xff ∷ 0xc0 ∷ []) refl (lit< tt) (lit< tt) tt

pub returns-clause-aligned_of_none : goal.returns-clause-aligned_of_none
unfolding canon
returns-clause-aligned_of_none c = filled aper (unknown_within aper []) 24 (0xc0 ∷ 0x40 ∷ 0x00 ∷ []) refl (lit< tt) (lit< tt) tt

pub returns-clause-aligned_of_three : goal.returns-clause-aligned_of_three
unfolding canon
returns-clause-aligned_of_three c = filled aper (unknown_within aper (0xff ∷ 0xff ∷ 0xff ∷ [])) 48 (0xc0 ∷ 0x40 ∷ 0x03 ∷ 0xff ∷ 0xff ∷ 0xff ∷ []) refl (lit< tt) (lit< tt) tt
