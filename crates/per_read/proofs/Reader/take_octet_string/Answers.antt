use Rattle.std.proofs.Common.{sym, subst}
use Rattle.rasn_schema.specs.Forms.{size_of, is_size_marked}
use Rattle.per_core.specs.Basic.{Counted, octet}
use Rattle.per_core.specs.Counts.{octet_items}
use Rattle.per_core.specs.Spellings.{Took}
use Rattle.per_read.specs.ReaderState.{settings_of}
use Rattle.per_read.proofs.Calls.{answers, passes_on}
use Rattle.per_read.proofs.FragmentItems.{are_gathered}
use Rattle.per_read.proofs.Reader.take_octet_string.Goals as goal

pub returns-in_err-take_items : goal.returns-in_err-take_items
returns-in_err-take_items c =
    let h = c.in_err-take_items.ensures in
    passes_on _ _ c.from_residual.ensures.1 h.kept (rw c.size.ensures at h.err)

pub returns : goal.returns
returns c =
    let x = c.args.self.now in
    let t = c.in_ok-take_items.ensures in
    let h = are_gathered (rw c.size.ensures at t.ok) c.new-octets.ensures.items in
    answers _ t.kept
    (subst (λ z. Took (Counted (settings_of x) (size_of c.args.constraints.now) (is_size_marked c.args.constraints.now) octet_items octet z) x.bits c.take_items.new.self.bits) (sym h.held) h.took)
