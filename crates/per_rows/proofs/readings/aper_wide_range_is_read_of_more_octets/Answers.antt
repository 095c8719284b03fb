use Rattle.std.proofs.Common.{refl, lit<, [], ◌∷◌, pos}
use Rattle.rasn_types.specs.Variants.{aligned}
use Rattle.per_core.specs.Basic.{basic_in}
use Rattle.per_core.specs.Canon.{canon}
use Rattle.per_core.proofs.WriterSpellings.{relax, then_within, field_within, padding_within}
use Rattle.per_rows.specs.Build.{aper}
use Rattle.per_rows.proofs.Reading.{filled, ones_within}
use Rattle.per_rows.proofs.readings.aper_wide_range_is_read_of_more_octets.Goals as goal

pub returns-clause-superfluous : goal.returns-clause-superfluous
unfolding basic_in canon
returns-clause-superfluous c = filled aper
    (relax (λ p b x. record { of = pos 5; is = refl; spelled = record { in_range = refl; spelled = record { within = refl; spelled = (refl, record { below = lit< tt; spelled = record { more = 3; spelled = x } }) } } })
    (then_within (field_within 2 3 (lit< tt)) (then_within (padding_within aper) (field_within 32 5 (lit< tt)))))
    40 (0xc0 ∷ 0x00 ∷ 0x00 ∷ 0x00 ∷ 0x05 ∷ []) refl (lit< tt) (lit< tt) tt

pub returns-clause-padding : goal.returns-clause-padding
unfolding basic_in canon
returns-clause-padding c = filled aper
    (relax (λ p b x. record { of = pos 253; is = refl; spelled = record { in_range = refl; spelled = record { within = refl; spelled = (refl, record { below = lit< tt; spelled = record { more = 0; spelled = x } }) } } })
    (then_within (field_within 2 0 (lit< tt)) (then_within (ones_within aligned) (field_within 8 253 (lit< tt)))))
    16 (0x3f ∷ 0xfd ∷ []) refl (lit< tt) (lit< tt) tt
