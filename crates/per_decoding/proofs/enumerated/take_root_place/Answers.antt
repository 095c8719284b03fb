use Rattle.std.proofs.Common.{sym}
use Rattle.per_read.specs.ReaderState.{settings_of}
use Rattle.per_read.proofs.Calls.{answers, passes_on}
use Rattle.per_decoding.proofs.Enumerations.{root_form, root_said}
use Rattle.per_read.proofs.Forms.{as_form, no_form}
use Rattle.per_read.proofs.InPlace.{as_index}
use Rattle.per_decoding.proofs.enumerated.take_root_place.Goals as goal

pub returns-in_err-code : goal.returns-in_err-code
returns-in_err-code c =
    let a = settings_of c.args.reader.now in
    let h = c.in_err-code.ensures in
    passes_on _ _ c.from_residual.ensures.1 h.kept (root_said a c.args.count _ _ _ c.saturating_sub.ensures h.err.0, no_form (λ o. sym (root_form a c.args.count _ o c.saturating_sub.ensures)) h.err.1)

pub returns : goal.returns
returns c =
    let a = settings_of c.args.reader.now in
    let h = c.in_ok-code.ensures in
    answers _ h.kept (as_index _ c.in_ok-code.code c.try_from.result _ (as_form (λ o. sym (root_form a c.args.count _ o c.saturating_sub.ensures)) _ h.ok) c.try_from.ensures c.ok.ensures.value)
