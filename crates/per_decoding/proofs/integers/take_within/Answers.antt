use Rattle.std.proofs.lemmas.Result.{IfOk-weaker, IfErr-weaker}
use Rattle.rasn_constraints.specs.Constraints.{bounds_of}
use Rattle.per_read.specs.ReaderState.{settings_of}
use Rattle.per_read.proofs.Calls.{passes_on}
use Rattle.per_read.proofs.Refusals.{faulty_map}
use Rattle.per_decoding.proofs.FittingNumbers.{starts, ends, fit_number, misfit_faulty, no_number, form_number}
use Rattle.per_decoding.proofs.integers.take_within.Goals as goal

pub returns-in_err-number : goal.returns-in_err-number
returns-in_err-number g c =
    let b = c.args.bounds.now in
    let lower = starts b c.start_and_end-lower.ensures.start in
    let upper = ends b c.start_and_end-lower.ensures.end in
    let h = c.in_err-number.ensures in
    passes_on _ _ c.from_residual.ensures.1 h.kept (faulty_map _ (form_number _ (bounds_of b) g.I.IntegerType.range _ lower upper _) (no_number _ (bounds_of b) g.I.IntegerType.range _ lower upper) h.err)

pub returns : goal.returns
returns g c =
    let a = settings_of c.args.reader.now in
    let b = c.args.bounds.now in
    let range = g.I.IntegerType.range in
    let lower = starts b c.start_and_end-lower.ensures.start in
    let upper = ends b c.start_and_end-lower.ensures.end in
    let h = c.in_ok-number.ensures in
    record {
      ok = IfOk-weaker c.fit.result _ _ (λ i f. fit_number a (bounds_of b) range _ _ lower upper c.in_ok-number.number h.ok (g.I.IntegerType.number i) f) c.fit.ensures.ok;
      err = IfErr-weaker c.fit.result _ _ (λ k m. misfit_faulty a (bounds_of b) range _ _ lower upper c.requires _ k c.in_ok-number.number h.ok m) c.fit.ensures.err;
      kept = h.kept;
    }
