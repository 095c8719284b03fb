use Rattle.std.proofs.Common.{◌∙◌, ◌<◌, ap, sym, length, List, ℕ}
use Rattle.rasn_constraints.specs.Constraints.{start_of, end_of}
use Rattle.per_core.specs.Basic.{octet}
use Rattle.per_core.specs.Counts.{octet_items}
use Rattle.per_core.specs.Spellings.{When}
use Rattle.per_core.proofs.ConstrainedLengths.{constrained_is, free_is}
use Rattle.per_read.specs.ReaderState.{settings_of}
use Rattle.per_read.proofs.ShortOctets.{none_below}
use Rattle.per_read.proofs.SizeForms.{none_as, under_constrained, under_free}
use Rattle.per_read.proofs.Reader.skip_under_size.Goals as goal

pub skip_between-requires : goal.skip_between-requires
skip_between-requires c = (constrained_is (start_of c.args.size.now) (end_of c.args.size.now) _ _ (sym c.constrained_size.ensures ∙ c.in-Some.is)).few

pub returns-in-Some-clause-none : goal.returns-in-Some-clause-none
returns-in-Some-clause-none c none =
    let b = constrained_is (start_of c.args.size.now) (end_of c.args.size.now) _ _ (sym c.constrained_size.ensures ∙ c.in-Some.is) in
    let e = λ (xs : List ℕ). under_constrained (settings_of c.args.self.now) octet_items octet xs b in
    none_below (none_as e (c.skip_between.ensures.none none))

pub returns-in-None-clause-none : goal.returns-in-None-clause-none
returns-in-None-clause-none c none =
    let b = free_is (start_of c.args.size.now) (end_of c.args.size.now) (sym c.constrained_size.ensures ∙ c.in-None.is) in
    let e = λ (xs : List ℕ). under_free (settings_of c.args.self.now) octet_items octet xs (start_of c.args.size.now) (end_of c.args.size.now) b in
    none_as (λ xs. ap (λ form. When (length xs < 16384) form) (e xs)) (c.skip_unfragmented.ensures.none none)
