use Rattle.std.proofs.Common.{refl, lit<, [], ◌∷◌, pos, true}
use Rattle.per_core.specs.Basic.{basic_in}
use Rattle.per_core.specs.Canon.{canon}
use Rattle.per_core.proofs.WriterSpellings.{relax, just_within, then_within, right_within}
use Rattle.per_core.proofs.Presenting.{octets_within}
use Rattle.per_rows.specs.Build.{uper}
use Rattle.per_rows.proofs.Reading.{filled}
use Rattle.per_rows.proofs.readings.uper_root_number_is_read_as_an_extended_one.Goals as goal

pub returns : goal.returns
unfolding basic_in canon
returns c = filled uper
    (relax (λ p b x. record { of = pos 5; is = refl; spelled = record { in_range = refl; spelled = x } }) (right_within (then_within (just_within (true ∷ []))
    (relax (λ p b x. record { within = refl; spelled = record { octets = 5 ∷ []; some = lit< tt; means = refl; spelled = x } }) (octets_within uper (5 ∷ []))))))
    17 (0x80 ∷ 0x82 ∷ 0x80 ∷ []) refl (lit< tt) (lit< tt) tt
