use Rattle.std.proofs.Common.{◌∙◌, sym, refl, List, ℕ}
use Rattle.rasn_constraints.specs.Constraints.{start_of, end_of}
use Rattle.per_core.specs.Counts.{counted_of}
use Rattle.per_core.specs.Lengths.{coded}
use Rattle.per_read.specs.ReaderState.{settings_of}
use Rattle.per_read.proofs.Calls.{takes_last_items}
use Rattle.per_read.proofs.OfFields.{of_constrained, of_free, says_as}
use Rattle.per_read.proofs.Refusals.{faulty_map}
use Rattle.per_core.proofs.ConstrainedLengths.{constrained_is, free_is}
use Rattle.per_read.proofs.SizeForms.{under_constrained, under_free, as_form, none_as}
use Rattle.per_read.proofs.Reader.take_under_size.Goals as goal

pub take_constrained_items-requires-clause-few : goal.take_constrained_items-requires-clause-few
take_constrained_items-requires-clause-few g c = (constrained_is (start_of c.args.size.now) (end_of c.args.size.now) _ _ (sym c.constrained_size.ensures ∙ c.in-Some.is)).few

pub returns-in-Some : goal.returns-in-Some
returns-in-Some g c =
    let i = g.C.Collector.item c.args.items.now in
    let b = constrained_is (start_of c.args.size.now) (end_of c.args.size.now) _ _ (sym c.constrained_size.ensures ∙ c.in-Some.is) in
    let e = λ (xs : List ℕ). under_constrained (settings_of c.args.self.now) (counted_of i) (coded i) xs b in
    takes_last_items c.take_constrained_items.ensures refl (λ n. as_form e) (λ k. faulty_map k (says_as (of_constrained (settings_of c.args.self.now) i b)) (none_as e))

pub returns-in-None : goal.returns-in-None
returns-in-None g c =
    let i = g.C.Collector.item c.args.items.now in
    let b = free_is (start_of c.args.size.now) (end_of c.args.size.now) (sym c.constrained_size.ensures ∙ c.in-None.is) in
    let e = λ (xs : List ℕ). under_free (settings_of c.args.self.now) (counted_of i) (coded i) xs (start_of c.args.size.now) (end_of c.args.size.now) b in
    takes_last_items c.take_unconstrained_items.ensures refl (λ n. as_form e) (λ k. faulty_map k (says_as (of_free (settings_of c.args.self.now) i (start_of c.args.size.now) (end_of c.args.size.now) b)) (none_as e))
