use Rattle.std.proofs.Common.{zero, suc}
use Rattle.per_core.specs.Versions.{also, newer_sequence, no_more, unchanged}
use Rattle.per_laws.specs.NamedBits.{without_names}
use Rattle.versions_of_samples.proofs.forbidden.bits_stay_with_names_or_without.Goals as goal

pub returns-clause-but_for_names : goal.returns-clause-but_for_names
unfolding without_names
returns-clause-but_for_names c =
    elim [ zero ↦ unchanged tt | suc n ↦ newer_sequence (also tt (unchanged tt) no_more) no_more ]
