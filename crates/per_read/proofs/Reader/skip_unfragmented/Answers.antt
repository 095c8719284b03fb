use Rattle.std.proofs.Common.{◌∙◌, ap, sym, arith, length}
use Rattle.per_read.specs.ReaderState.{ReaderState, settings_of}
use Rattle.per_core.specs.declared.lengths.Length.TheVariants.{Last}
use Rattle.per_read.proofs.Calls.{answers}
use Rattle.per_read.proofs.FragmentItems.{small_length}
use Rattle.per_read.proofs.ShortOctets.{counted, fragment_no_octets, last_octets, no_length_no_octets, short_no_octets, skips}
use Rattle.per_read.proofs.Reader.skip_unfragmented.Goals as goal

pub returns-in_default-clause-none : goal.returns-in_default-clause-none
returns-in_default-clause-none c none = no_length_no_octets (settings_of c.args.self.now) c.in_default.ensures.err.1

pub returns-in_default-length-clause-none : goal.returns-in_default-length-clause-none
returns-in_default-length-clause-none c none = fragment_no_octets (settings_of c.args.self.now) c.in_default-length.field-0 (rw c.in_default-length.is at c.in-Ok.ensures.ok)

pub overflow_mul-count : goal.overflow_mul-count
overflow_mul-count c = omega (arith, (small_length (Last c.in-Last.count) (rw c.in-Last.is at c.in-Ok.ensures.ok)).0)

pub returns-in_default-take-clause-none : goal.returns-in_default-take-clause-none
returns-in_default-take-clause-none c none =
    let same = ap (λ (x : ReaderState). length x.bits) c.self.view_is in
    short_no_octets (settings_of c.args.self.now) c.in-Last.count (rw c.in-Last.is at c.in-Ok.ensures.ok) (let short = c.in_default-take.ensures.short in omega (arith, same, short))

pub returns-clause-took : goal.returns-clause-took
returns-clause-took c =
    let h = rw c.in-Last.is at c.in-Ok.ensures in
    let same = ap (λ (x : ReaderState). x.bits) c.self.view_is in
    let front = c.in-Ok-take.ensures in
    answers _ (ap (λ (x : ReaderState). x.options) c.self.view_is ∙ h.kept)
    (counted (last_octets (settings_of c.args.self.now) c.in-Last.count h.ok (omega (arith, (small_length (Last c.in-Last.count) h.ok).0)) (skips c.in-Last.count _ (sym same ∙ front.ok) front.count)))
