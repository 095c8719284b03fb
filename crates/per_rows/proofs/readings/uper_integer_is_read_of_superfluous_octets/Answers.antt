use Rattle.std.proofs.Common.{refl, lit<, [], ◌∷◌, pos}
use Rattle.per_core.specs.Basic.{basic_in}
use Rattle.per_core.specs.Canon.{canon}
use Rattle.per_core.proofs.WriterSpellings.{relax}
use Rattle.per_core.proofs.Presenting.{octets_within}
use Rattle.per_rows.specs.Build.{uper}
use Rattle.per_rows.proofs.Reading.{filled}
use Rattle.per_rows.proofs.readings.uper_integer_is_read_of_superfluous_octets.Goals as goal

pub returns : goal.returns
unfolding basic_in canon
returns c = filled uper
    (relax (λ p b x. record { of = pos 5; is = refl; spelled = record { in_range = refl; spelled = record { within = refl; spelled = record { octets = 0 ∷ 5 ∷ []; some = lit< tt; means = refl; spelled = x } } } })
    (octets_within uper (0 ∷ 5 ∷ [])))
    24 (2 ∷ 0 ∷ 5 ∷ []) refl (lit< tt) (lit< tt) tt
