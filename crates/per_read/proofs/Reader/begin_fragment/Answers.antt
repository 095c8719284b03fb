use Rattle.std.proofs.Common.{◌∙◌, arith, refl, sym}
use Rattle.per_read.specs.Lists.{list_rule}
use Rattle.per_read.specs.ReaderState.{settings_of}
use Rattle.per_read.proofs.Calls.{errs}
use Rattle.per_read.proofs.FragmentItems.{small_length}
use Rattle.per_read.proofs.OpenLists.{amid_fragment, empty_length, none_length, says_length}
use Rattle.per_read.proofs.Reader.begin_fragment.Goals as goal

pub overflow_cast-list : goal.overflow_cast-list
overflow_cast-list c = omega (arith, (small_length _ c.in_ok-length.ensures.ok).0, c.count.ensures)

pub returns-in_err-length : goal.returns-in_err-length
returns-in_err-length c =
    let h = c.in_err-length.ensures in
    rw (errs _ _ c.from_residual.ensures.1) (record {
      law = λ size mark e start before amid. record {
        says = says_length (list_rule (settings_of c.args.self.now) size mark e) _ (omega (arith, c.if-list-gt0.false)) c.if-not-list.false h.err.0 amid;
        none = none_length (list_rule (settings_of c.args.self.now) size mark e) (omega (arith, c.if-list-gt0.false)) c.if-not-list.false h.err.1 amid;
      };
      ended = tt;
      count = refl;
      leaves = tt;
      kept = h.kept;
    })

pub returns : goal.returns
returns c =
    let h = c.in_ok-length.ensures in
    record {
      law = λ size mark e start before amid.
          rw (c.count.ensures, c.is_followed-list.ensures)
          (amid_fragment (list_rule (settings_of c.args.self.now) size mark e) c.in_ok-length.length (omega (arith, c.if-list-gt0.false)) c.if-not-list.false h.ok amid);
      ended = λ none. c.is_followed-list.ensures ∙ empty_length c.in_ok-length.length h.ok (sym c.count.ensures ∙ none);
      count = refl;
      leaves = record { front = h.ok.front; joins = h.ok.joins };
      kept = h.kept;
    }
