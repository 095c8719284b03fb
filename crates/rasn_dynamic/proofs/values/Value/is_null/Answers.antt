use Rattle.std.proofs.Common.{◌≡◌, true, false}
use Rattle.rasn_dynamic.proofs.Trees.{not_null}
use Rattle.rasn_dynamic.proofs.values.Value.is_null.Goals as goal

pub returns-in_default : goal.returns-in_default
returns-in_default c = record { no = λ e. not_null c.args.self.now c.in_default.not-Null; yes = λ e. absurd (cc) }
