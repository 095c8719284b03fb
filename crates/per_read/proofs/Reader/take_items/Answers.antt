use Rattle.std.proofs.Common.{false, refl}
use Rattle.rasn_constraints.specs.Bounds.{any_size}
use Rattle.per_read.specs.ReaderState.{settings_of}
use Rattle.per_read.proofs.Calls.{takes_last_items}
use Rattle.per_read.proofs.Refusals.{faulty_map}
use Rattle.per_read.proofs.OfFields.{of_items}
use Rattle.per_read.proofs.Reader.take_items.Goals as goal

pub returns-in-Some : goal.returns-in-Some
returns-in-Some g c = rw c.in-Some.is c.take_extensible_items.ensures

pub returns-in-None : goal.returns-in-None
returns-in-None g c =
    let i = g.C.Collector.item c.args.items.now in
    let x = c.args.self.now in
    rw c.in-None.is (takes_last_items c.take_unconstrained_items.ensures refl (λ n b. b)
    (λ k. faulty_map k (of_items (settings_of x) any_size false i x.bits k) (λ none. none)))
