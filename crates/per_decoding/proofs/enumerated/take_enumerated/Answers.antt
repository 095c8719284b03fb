use Rattle.std.proofs.Common.{◌∙◌, ◌<◌, ◌^◌, arith}
use Rattle.std.proofs.lemmas.Result.{IfOk-weaker, IfErr-weaker}
use Rattle.per_core.specs.IndexFaults.{count_of}
use Rattle.per_read.specs.ReaderState.{settings_of}
use Rattle.per_read.proofs.Calls.{passes_on}
use Rattle.per_decoding.proofs.Enumerations.{item_missing, item_there, no_extension, of_extension, of_places, place_faulty}
use Rattle.per_decoding.proofs.enumerated.take_enumerated.Goals as goal

pub returns-in_err-extended : goal.returns-in_err-extended
returns-in_err-extended g c =
    let a = settings_of c.args.reader.now in
    let r = g.E.Enumerated.roots in
    let e = g.E.Enumerated.addeds in
    let ext = g.E.Enumerated.EXTENSIBLE in
    let h = rw c.EXTENSIBLE.ensures at c.in_err-extended.ensures in
    passes_on _ _ c.from_residual.ensures.1 h.kept (of_places a r e ext _ _ (of_extension a r ext _ _ h.err.0), no_extension a r e ext h.err.1)

pub returns-in_err-place : goal.returns-in_err-place
returns-in_err-place g c =
    let a = settings_of c.args.reader.now in
    let r = g.E.Enumerated.roots in
    let e = g.E.Enumerated.addeds in
    let ext = g.E.Enumerated.EXTENSIBLE in
    let bit = rw c.EXTENSIBLE.ensures at c.in_ok-extended.ensures in
    let h = c.in_err-place.ensures in
    passes_on _ _ c.from_residual-in_err-place.ensures.1 (h.kept ∙ bit.kept) (place_faulty a r e ext c.in_ok-extended.extended bit.ok _ (rw (c.item_count.ensures, bit.kept) at h.err))

pub returns : goal.returns
returns g c =
    let a = settings_of c.args.reader.now in
    let r = g.E.Enumerated.roots in
    let e = g.E.Enumerated.addeds in
    let ext = g.E.Enumerated.EXTENSIBLE in
    let bit = rw c.EXTENSIBLE.ensures at c.in_ok-extended.ensures in
    let h = c.in_ok-place.ensures in
    let few : count_of r e c.in_ok-extended.extended < 2 ^ 64 = omega (arith, c.item_count.ensures) in
    let place = rw (c.item_count.ensures, bit.kept) at h.ok in
    record {
      ok = IfOk-weaker _ _ _ (λ x i. item_there a r e ext c.in_ok-extended.extended bit.ok g.E.AsnType.value c.in_ok-place.place x few place i) c.item_at.ensures.ok;
      err = IfErr-weaker _ _ _ (λ k i. item_missing a r e ext c.in_ok-extended.extended bit.ok c.in_ok-place.place k _ few place i) c.item_at.ensures.err;
      kept = h.kept ∙ bit.kept;
    }
