use Rattle.std.proofs.Common.{◌∙◌, ap, sym, refl, arith, length}
use Rattle.per_core.specs.Basic.{octet}
use Rattle.per_core.specs.Counts.{octet_items}
use Rattle.per_read.specs.ReaderState.{ReaderState, settings_of}
use Rattle.per_read.proofs.Calls.{answers}
use Rattle.per_read.proofs.ShortOctets.{counted, skips}
use Rattle.per_read.proofs.SizeForms.{between_took, short_between, no_count_between, no_padding_between}
use Rattle.per_read.proofs.Reader.skip_between.Goals as goal

pub returns-in_err-count-clause-none : goal.returns-in_err-count-clause-none
returns-in_err-count-clause-none c none = no_count_between (settings_of c.args.self.now) c.args.lower c.args.upper octet_items octet (c.in_err-count.ensures.none refl)

pub returns-in_default-clause-none : goal.returns-in_default-clause-none
returns-in_default-clause-none c none =
    let h = c.in_ok-count.ensures.took in
    no_padding_between (settings_of c.args.self.now) c.args.lower c.args.upper octet_items 8 c.in_ok-count.count h.ok refl (rw h.kept at c.in_default.ensures.err.1)

pub returns-in_default-take-clause-none : goal.returns-in_default-take-clause-none
returns-in_default-take-clause-none c none =
    let h = c.in_ok-count.ensures.took in
    let same = ap (λ (x : ReaderState). length x.bits) c.self.view_is in
    short_between (settings_of c.args.self.now) c.args.lower c.args.upper octet_items 8 c.in_ok-count.count h.ok refl (rw h.kept at c.in-Ok.ensures.ok) (let short = c.in_default-take.ensures.short in omega (arith, same, short))

pub returns-clause-took : goal.returns-clause-took
returns-clause-took c =
    let h = c.in_ok-count.ensures.took in
    let p = c.in-Ok.ensures in
    let same = ap (λ (x : ReaderState). x.bits) c.self.view_is in
    let front = c.in-Ok-take.ensures in
    answers _ (ap (λ (x : ReaderState). x.options) c.self.view_is ∙ p.kept ∙ h.kept)
    (counted (between_took (settings_of c.args.self.now) c.args.lower c.args.upper octet_items 8 c.in_ok-count.count h.ok refl (rw h.kept at p.ok) (skips c.in_ok-count.count _ (sym same ∙ front.ok) front.count)))
