use Rattle.std.proofs.Common.{refl, lit<, [], ◌∷◌, true}
use Rattle.per_core.specs.Basic.{basic_in}
use Rattle.per_core.proofs.WriterSpellings.{relax, just_within}
use Rattle.per_rows.specs.Build.{uper}
use Rattle.per_rows.proofs.Reading.{filled}
use Rattle.per_rows.proofs.readings.uper_boolean_is_read_with_any_spare_bits.Goals as goal

pub returns : goal.returns
unfolding basic_in
returns c = filled uper (relax (λ p b x. record { of = true; is = refl; spelled = x }) (just_within (true ∷ [])))
    1 (0xff ∷ []) refl (lit< tt) (lit< tt) tt
