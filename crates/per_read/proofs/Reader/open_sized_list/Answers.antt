use Rattle.std.proofs.Common.{◌∙◌, refl, sym}
use Rattle.rasn_constraints.specs.Constraints.{start_of, end_of}
use Rattle.per_core.specs.Basic.{basic}
use Rattle.per_read.specs.ReaderState.{settings_of}
use Rattle.per_read.proofs.Calls.{errs}
use Rattle.per_read.proofs.OfLists.{of_list_count}
use Rattle.per_read.proofs.Openings.{amid_counted, amid_free, leaves_all, none_counted}
use Rattle.per_core.proofs.ConstrainedLengths.{constrained_is, free_is}
use Rattle.per_read.proofs.Reader.open_sized_list.Goals as goal

pub take_constrained_count-requires : goal.take_constrained_count-requires
take_constrained_count-requires c = (constrained_is (start_of c.args.size) (end_of c.args.size) _ _ (sym c.constrained_size.ensures ∙ c.in-Some.is)).few

pub returns-in_err-left : goal.returns-in_err-left
returns-in_err-left c =
    let h = c.in_err-left.ensures in
    let a = settings_of c.args.self.now in
    let bounds = constrained_is (start_of c.args.size) (end_of c.args.size) _ _ (sym c.constrained_size.ensures ∙ c.in-Some.is) in
    rw (errs _ _ c.from_residual.ensures.1) (record { ok = tt; err = (of_list_count a c.args.self.now.bits _ bounds h.err.0, λ e. none_counted a (basic a e) c.args.size bounds h.err.1); leaves = tt; kept = h.kept })

pub returns : goal.returns
returns c =
    let h = c.in_ok-left.ensures in
    let a = settings_of c.args.self.now in
    let bounds = constrained_is (start_of c.args.size) (end_of c.args.size) _ _ (sym c.constrained_size.ensures ∙ c.in-Some.is) in
    record { ok = λ e. amid_counted a (basic a e) c.args.size bounds c.in_ok-left.left h.ok; err = tt; leaves = record { front = h.ok.front; joins = h.ok.joins }; kept = h.kept }

pub returns-in_default : goal.returns-in_default
returns-in_default c =
    let a = settings_of c.args.self.now in
    let free = free_is (start_of c.args.size) (end_of c.args.size) (sym c.constrained_size.ensures ∙ c.in_default.is) in
    record { ok = λ e. amid_free a (basic a e) c.args.size free c.args.self.now.bits; err = tt; leaves = leaves_all c.args.self.now.bits; kept = refl }
