use Rattle.per_rows.proofs.deep_defaults.uper_deep_added_default_is_read_by_two_versions.Goals as goal
use Rattle.per_rows.proofs.Defaulted

pub returns-clause-versions : goal.returns-clause-versions
returns-clause-versions c = Defaulted.flagged_is_newer

pub returns-clause-older : goal.returns-clause-older
returns-clause-older c = Defaulted.flagged_read 127

pub returns-clause-newer : goal.returns-clause-newer
returns-clause-newer c = Defaulted.deeply_flagged_read 127
