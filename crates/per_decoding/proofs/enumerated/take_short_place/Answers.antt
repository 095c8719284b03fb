use Rattle.std.proofs.Common.{◌<◌, ◌^◌, arith, refl, sym}
use Rattle.per_core.specs.Basic.{constrained_form}
use Rattle.per_read.specs.ReaderState.{settings_of}
use Rattle.per_decoding.proofs.Enumerations.{no_place_held, no_short_place, root_form, short_place}
use Rattle.per_read.proofs.Forms.{as_form}
use Rattle.per_read.proofs.InPlace.{as_index}
use Rattle.per_decoding.proofs.enumerated.take_short_place.Goals as goal

pub returns-clause-took : goal.returns-clause-took
returns-clause-took c =
    let a = settings_of c.args.reader.now in
    let h = c.in_ok-code.ensures.took in
    short_place (λ a. constrained_form a c.args.count) c.args.reader.now _ c.ok.result h.kept (as_index _ c.in_ok-code.code c.try_from.result _ (as_form (λ o. sym (root_form a c.args.count _ o c.saturating_sub.ensures)) _ h.ok) c.try_from.ensures c.ok.ensures.value)

pub returns-in_err-code-clause-none : goal.returns-in_err-code-clause-none
returns-in_err-code-clause-none c e = no_short_place _ c.args.count _ c.saturating_sub.ensures (c.in_err-code.ensures.none refl)

pub returns-clause-none : goal.returns-clause-none
returns-clause-none c e =
    let a = settings_of c.args.reader.now in
    let few : c.args.count < 2 ^ 64 = omega (arith, c.ranges.count.fits) in
    let code = as_form (λ o. sym (root_form a c.args.count _ o c.saturating_sub.ensures)) _ c.in_ok-code.ensures.took.ok in
    no_place_held a c.args.count c.ok.result _ few (as_index _ c.in_ok-code.code c.try_from.result _ code c.try_from.ensures c.ok.ensures.value) e
