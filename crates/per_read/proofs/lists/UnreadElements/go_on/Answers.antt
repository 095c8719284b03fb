use Rattle.std.proofs.Common.{◌≡◌, ◌+◌, [], suc, arith, refl}
use Rattle.per_core.proofs.Readings.{one_reading}
use Rattle.per_read.specs.Lists.{list_rule}
use Rattle.per_read.specs.ReaderState.{settings_of}
use Rattle.per_read.proofs.OpenLists.{amid_item}
use Rattle.per_read.proofs.lists.UnreadElements.go_on.Goals as goal

pub returns-clause-goes : goal.returns-clause-goes
returns-clause-goes c = λ went reader.
    let l = c.args.self.now in
    let a = settings_of reader in
    let some : l.left ≡ suc c.in-Some-Some.left = omega (arith, c.in-Some-Some.ensures) in
    let counted : c.in-Some-Some.count ≡ l.count + 1 = omega (arith, c.in-Some-Some.ensures') in
    record {
      law = λ size mark e start before amid. rw counted (amid_item (list_rule a size mark e) c.in-Some-Some.left some (λ v w. one_reading a e v w) amid);
      fewer = λ e. omega (arith, c.in-Some-Some.ensures');
      leaves = record { front = []; joins = refl };
      kept = refl;
    }
