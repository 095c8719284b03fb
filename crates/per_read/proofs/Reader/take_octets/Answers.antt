use Rattle.std.proofs.Common.{sym, subst}
use Rattle.per_core.specs.Basic.{Octets}
use Rattle.per_core.specs.Spellings.{Took}
use Rattle.per_read.specs.ReaderState.{settings_of}
use Rattle.per_read.proofs.Calls.{answers, passes_on}
use Rattle.per_read.proofs.FragmentItems.{are_gathered}
use Rattle.per_read.proofs.Reader.take_octets.Goals as goal

pub returns-in_err-take_unconstrained_items : goal.returns-in_err-take_unconstrained_items
returns-in_err-take_unconstrained_items c =
    passes_on _ _ c.from_residual.ensures.1 c.in_err-take_unconstrained_items.ensures.kept c.in_err-take_unconstrained_items.ensures.err

pub returns : goal.returns
returns c =
    let h = are_gathered c.in_ok-take_unconstrained_items.ensures.ok c.new-octets.ensures.items in
    answers _ c.in_ok-take_unconstrained_items.ensures.kept
    (subst (λ z. Took (Octets (settings_of c.args.self.now) z) c.args.self.now.bits c.take_unconstrained_items.new.self.bits) (sym h.held) h.took)
