use Rattle.std.proofs.Common.{◌∙◌, inr, ap, sym}
use Rattle.rasn_types.specs.Contents.{is_time, utc}
use Rattle.per_read.specs.ReaderState.{settings_of}
use Rattle.per_read.proofs.Calls.{refuses, passes_on}
use Rattle.per_decoding.proofs.Moments.{fails_unless, no_time, none_of_time, time_kind}
use Rattle.per_read.proofs.Refusals.{faulty_map}
use Rattle.per_decoding.proofs.times.take_utc_time.Goals as goal

pub returns-in_err-text : goal.returns-in_err-text
returns-in_err-text g c =
    let h = c.in_err-text.ensures in
    passes_on _ _ c.from_residual.ensures.1 h.kept (faulty_map _ (time_kind _ utc _ _) (none_of_time _ utc) h.err)

pub returns : goal.returns
returns g c =
    let h = c.in_ok-text.ensures in
    let none = sym (ap (is_time utc) c.as_iso646_bytes.ensures.characters) ∙ fails_unless (is_time utc c.as_iso646_bytes.result.now) c.in-Err.ensures.accepted.1 in
    refuses _ h.kept (inr (no_time (settings_of c.args.reader.now) utc c.in_ok-text.text h.ok none))
