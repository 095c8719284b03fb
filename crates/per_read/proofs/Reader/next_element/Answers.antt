use Rattle.std.proofs.Common.{◌≡◌, ◌<◌, ◌≤◌, ◌^◌, ◌+◌, inr, refl, suc, arith}
use Rattle.per_core.proofs.Readings.{one_reading}
use Rattle.per_read.specs.Lists.{list_rule}
use Rattle.per_read.specs.ReaderState.{settings_of}
use Rattle.per_read.proofs.Calls.{errs}
use Rattle.per_read.proofs.OpenLists.{amid_item, list_ends, list_miscounted, none_uncounted, uncounted}
use Rattle.per_read.proofs.Reader.next_element.Goals as goal

pub returns-in_err-begin_fragment : goal.returns-in_err-begin_fragment
returns-in_err-begin_fragment c =
    let h = c.in_err-begin_fragment.ensures in
    rw (errs _ _ c.from_residual.ensures.1) (record { law = λ size mark e start before amid. h.law size mark e start before amid; fewer = tt; leaves = tt; kept = h.kept })

pub returns-in_err-check_size : goal.returns-in_err-check_size
returns-in_err-check_size c =
    let h = c.in_ok-begin_fragment.ensures in
    let a = settings_of c.args.self.now in
    let k = c.in_err-check_size.ensures in
    let none : c.begin_fragment.new.list.left ≡ 0 = omega (arith, c.in_default.ensures) in
    let few : c.begin_fragment.new.list.count < 2 ^ 64 = omega arith in
    rw (errs _ _ c.from_residual-in_err-check_size.ensures.1, k.err) (record {
      law = λ size mark e start before amid.
          list_miscounted (list_rule a size mark e) none (h.ended none) (h.law size mark e start before amid) few k.not;
      fewer = tt;
      leaves = tt;
      kept = h.kept;
    })

pub returns-in_default : goal.returns-in_default
returns-in_default c =
    let h = c.in_ok-begin_fragment.ensures in
    let none : c.begin_fragment.new.list.left ≡ 0 = omega (arith, c.in_default.ensures) in
    record {
      law = λ size mark e start before amid.
          list_ends (list_rule (settings_of c.args.self.now) size mark e) none (h.ended none) (h.law size mark e start before amid) c.in_ok-check_size.ensures.ok;
      fewer = λ e. absurd (cc);
      leaves = h.leaves;
      kept = h.kept;
    }

pub returns-in_default-checked_add : goal.returns-in_default-checked_add
returns-in_default-checked_add c =
    let h = c.in_ok-begin_fragment.ensures in
    let a = settings_of c.args.self.now in
    let some : c.begin_fragment.new.list.left ≡ suc c.in-Some.left = omega (arith, c.in-Some.ensures) in
    let many : 2 ^ 64 ≤ c.begin_fragment.new.list.count + 1 = omega (arith, c.in_default-checked_add.ensures) in
    record {
      law = λ size mark e start before amid. record {
        says = inr (inr (refl, uncounted (list_rule a size mark e) c.in-Some.left some many (h.law size mark e start before amid)));
        none = none_uncounted (list_rule a size mark e) c.in-Some.left some many (h.law size mark e start before amid);
      };
      fewer = tt;
      leaves = tt;
      kept = h.kept;
    }

pub returns : goal.returns
returns c =
    let h = c.in_ok-begin_fragment.ensures in
    let a = settings_of c.args.self.now in
    let some : c.begin_fragment.new.list.left ≡ suc c.in-Some.left = omega (arith, c.in-Some.ensures) in
    let counted : c.in-Some-checked_add.count ≡ c.begin_fragment.new.list.count + 1 = omega (arith, c.in-Some-checked_add.ensures) in
    record {
      law = λ size mark e start before amid. rw counted (amid_item (list_rule a size mark e) c.in-Some.left some (λ v w. one_reading a e v w) (h.law size mark e start before amid));
      fewer = λ e. omega (arith, h.count, c.in-Some-checked_add.ensures);
      leaves = h.leaves;
      kept = h.kept;
    }
