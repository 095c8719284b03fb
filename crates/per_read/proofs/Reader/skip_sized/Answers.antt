use Rattle.std.proofs.Common.{◌∙◌, ◌≡◌, ◌<◌, ◌^◌, arith, sym, refl, true, false}
use Rattle.rasn_constraints.specs.Bounds.{allows}
use Rattle.rasn_constraints.specs.Constraints.{start_of, end_of, size_between}
use Rattle.per_core.specs.declared.items.Item.TheVariants.{Octet}
use Rattle.per_read.specs.ReaderState.{settings_of}
use Rattle.per_read.proofs.Calls.{answers}
use Rattle.per_read.proofs.Miscounts.{sized_ok}
use Rattle.per_read.proofs.ShortOctets.{counted, none_below, none_sized_below, other_count, uncounted}
use Rattle.per_read.proofs.SizeForms.{counts_held}
use Rattle.per_read.proofs.Reader.skip_sized.Goals as goal

pub returns-in_err-count-clause-none : goal.returns-in_err-count-clause-none
returns-in_err-count-clause-none c none = none_sized_below (settings_of c.args.self.now) (size_between c.args.size.now) (c.in_err-count.ensures.none refl)

pub returns-then-contains-clause-took : goal.returns-then-contains-clause-took
returns-then-contains-clause-took c =
    let n = c.in_ok-count.count in
    let h = c.in_ok-count.ensures.took in
    let few : n < 2 ^ 64 = omega arith in
    let held : allows (size_between c.args.size.now) n ≡ true = sym (counts_held (start_of c.args.size.now) (end_of c.args.size.now) n few) ∙ sym c.if-contains.ensures in
    answers _ h.kept (counted (sized_ok (settings_of c.args.self.now) Octet (size_between c.args.size.now) held (uncounted h.ok)))

pub returns-else-contains-clause-none : goal.returns-else-contains-clause-none
returns-else-contains-clause-none c none =
    let n = c.in_ok-count.count in
    let h = c.in_ok-count.ensures.took in
    let few : n < 2 ^ 64 = omega arith in
    let unheld : allows (size_between c.args.size.now) n ≡ false = sym (counts_held (start_of c.args.size.now) (end_of c.args.size.now) n few) ∙ sym c.if-contains.ensures in
    none_below (other_count (settings_of c.args.self.now) (size_between c.args.size.now) unheld (uncounted h.ok))
