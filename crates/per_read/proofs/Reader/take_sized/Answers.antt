use Rattle.std.proofs.Common.{inr, refl}
use Rattle.rasn_constraints.specs.Constraints.{size_between}
use Rattle.per_read.specs.ReaderState.{settings_of}
use Rattle.per_read.proofs.Calls.{answers_items, passes_on_items}
use Rattle.per_read.proofs.Miscounts.{sized_ok, none_faulty, miscounted}
use Rattle.per_read.proofs.Reader.take_sized.Goals as goal

pub returns-in_err-count : goal.returns-in_err-count
returns-in_err-count g c =
    let h = c.in_err-count.ensures in
    passes_on_items _ _ c.from_residual.ensures.1 h.kept (none_faulty (settings_of c.args.self.now) (g.C.Collector.item c.args.items.now) (size_between c.args.size.now) _ h.err)

pub returns-in_err-check_size : goal.returns-in_err-check_size
returns-in_err-check_size g c =
    let h = c.in_err-check_size.ensures in
    let t = c.in_ok-count.ensures in
    passes_on_items _ _ c.from_residual-in_err-check_size.ensures.1 t.kept
    (rw h.err (inr (miscounted (settings_of c.args.self.now) (g.C.Collector.item c.args.items.now) (size_between c.args.size.now) h.not refl refl t.ok)))

pub returns : goal.returns
returns g c =
    let t = c.in_ok-count.ensures in
    answers_items _ t.kept (sized_ok (settings_of c.args.self.now) (g.C.Collector.item c.args.items.now) (size_between c.args.size.now) c.in_ok-check_size.ensures.ok t.ok)
