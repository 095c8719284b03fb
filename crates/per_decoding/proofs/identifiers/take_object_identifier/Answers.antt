use Rattle.std.proofs.Common.{◌∙◌, inr, ap, sym}
use Rattle.rasn_types.specs.Contents.{is_identifier}
use Rattle.per_read.specs.ReaderState.{settings_of}
use Rattle.per_read.proofs.Calls.{refuses, passes_on}
use Rattle.per_decoding.proofs.Moments.{no_object, none_of_identifier, octets_identifier}
use Rattle.per_read.proofs.Refusals.{faulty_map}
use Rattle.per_decoding.proofs.identifiers.take_object_identifier.Goals as goal

pub returns-in_err-octets : goal.returns-in_err-octets
returns-in_err-octets c =
    let h = c.in_err-octets.ensures in
    passes_on _ _ c.from_residual.ensures.1 h.kept (faulty_map _ (octets_identifier _ _ _) (none_of_identifier _) h.err)

pub returns-in-Err-InvalidObjectIdentifier : goal.returns-in-Err-InvalidObjectIdentifier
returns-in-Err-InvalidObjectIdentifier c =
    let h = c.in_ok-octets.ensures in
    let i = c.in-Err-InvalidObjectIdentifier.field-0-is in
    let none = c.in-Err-InvalidObjectIdentifier.ensures.refused cc in
    refuses _ h.kept (inr (no_object (settings_of c.args.reader.now) c.in_ok-octets.octets.items h.ok (sym (ap is_identifier c.deref.ensures.value) ∙ none)))
