use Rattle.std.proofs.Common.{◌∙◌}
use Rattle.std.proofs.lemmas.Result.{IfErr-weaker}
use Rattle.per_read.specs.ReaderState.{settings_of}
use Rattle.per_read.proofs.Calls.{passes_on}
use Rattle.per_read.proofs.Refusals.{faulty_map}
use Rattle.per_decoding.proofs.DatesRead.{day_fault, known_found, month_fault, no_day, no_years, year_fault}
use Rattle.per_decoding.proofs.dates.take_date.Goals as goal

pub returns-in_err-year : goal.returns-in_err-year
returns-in_err-year g c =
    let a = settings_of c.args.reader.now in
    let h = c.in_err-year.ensures in
    passes_on _ _ c.from_residual.ensures.1 h.kept (faulty_map _ (year_fault a _ _) (no_years a) h.err)

pub returns-in_err-month : goal.returns-in_err-month
returns-in_err-month g c =
    let a = settings_of c.args.reader.now in
    let y = c.in_ok-year.ensures in
    let h = c.in_err-month.ensures in
    passes_on _ _ c.from_residual-in_err-month.ensures.1 (h.kept ∙ y.kept) (month_fault a _ _ y.ok (rw y.kept at h.err))

pub returns-in_err-day : goal.returns-in_err-day
returns-in_err-day g c =
    let a = settings_of c.args.reader.now in
    let y = c.in_ok-year.ensures in
    let m = c.in_ok-month.ensures in
    let h = c.in_err-day.ensures in
    passes_on _ _ c.from_residual-in_err-day.ensures.1 (h.kept ∙ m.kept ∙ y.kept) (day_fault a _ _ _ y.ok (rw y.kept at m.ok) (rw (m.kept ∙ y.kept) at h.err))

pub returns : goal.returns
returns g c =
    let a = settings_of c.args.reader.now in
    let y = c.in_ok-year.ensures in
    let m = c.in_ok-month.ensures in
    let d = c.in_ok-day.ensures in
    let bm = rw y.kept at m.ok in
    let bd = rw (m.kept ∙ y.kept) at d.ok in
    record {
      ok = known_found a _ _ _ y.ok bm bd _ c.known_day.result c.known_day.ensures.known c.known_day.ensures.lawful;
      err = IfErr-weaker c.known_day.result _ _ (λ k n. no_day a _ _ _ y.ok bm bd k n) c.known_day.ensures.none;
      kept = d.kept ∙ m.kept ∙ y.kept;
    }
