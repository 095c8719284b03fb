use Rattle.std.proofs.Common.{◌∙◌, ◌<◌, ◌^◌, arith}
use Rattle.std.proofs.lemmas.Result.{IfOk-weaker, IfErr-weaker}
use Rattle.rasn_schema.specs.Enumerations.{addeds_of, is_extensible}
use Rattle.per_decoding.specs.ChoiceIndexes.{index_of}
use Rattle.per_core.specs.IndexFaults.{count_of}
use Rattle.per_read.specs.ReaderState.{settings_of}
use Rattle.per_read.proofs.Calls.{passes_on}
use Rattle.per_decoding.proofs.Indexes.{index_missing, index_there, no_extension, place_faulty, places_index}
use Rattle.per_decoding.proofs.Enumerations.{of_extension}
use Rattle.per_decoding.proofs.choices.take_choice_index.Goals as goal

pub returns-in_err-extended : goal.returns-in_err-extended
returns-in_err-extended c =
    let r = c.args.roots in
    let e = addeds_of c.args.addeds in
    let ext = is_extensible c.args.addeds in
    let h = rw c.has_marker.ensures at c.in_err-extended.ensures in
    passes_on _ _ c.from_residual.ensures.1 h.kept (places_index (settings_of c.args.reader.now) r e ext _ _ (of_extension (settings_of c.args.reader.now) r ext _ _ h.err.0), no_extension (settings_of c.args.reader.now) r e ext h.err.1)

pub returns-in_err-place : goal.returns-in_err-place
returns-in_err-place c =
    let r = c.args.roots in
    let e = addeds_of c.args.addeds in
    let ext = is_extensible c.args.addeds in
    let bit = rw c.has_marker.ensures at c.in_ok-extended.ensures in
    let h = c.in_err-place.ensures in
    passes_on _ _ c.from_residual-in_err-place.ensures.1 (h.kept ∙ bit.kept)
    (place_faulty (settings_of c.args.reader.now) r e ext c.in_ok-extended.extended bit.ok _ (rw (c.place_count-count.ensures, bit.kept) at h.err))

pub returns : goal.returns
returns c =
    let a = settings_of c.args.reader.now in
    let r = c.args.roots in
    let e = addeds_of c.args.addeds in
    let ext = is_extensible c.args.addeds in
    let bit = rw c.has_marker.ensures at c.in_ok-extended.ensures in
    let h = c.in_ok-place.ensures in
    let few : count_of r e c.in_ok-extended.extended < 2 ^ 64 = omega (arith, c.place_count-count.ensures) in
    let place = rw (c.place_count-count.ensures, bit.kept) at h.ok in
    let known = rw c.place_count-count.ensures at c.place_at_index.ensures.ok in
    let missing = rw c.place_count-count.ensures at c.place_at_index.ensures.err in
    record {
      ok = IfOk-weaker _ _ _ (λ x i. index_there a r e ext c.in_ok-extended.extended bit.ok c.in_ok-place.place (index_of x) few place i) known;
      err = IfErr-weaker _ _ _ (λ k i. index_missing a r e ext c.in_ok-extended.extended bit.ok c.in_ok-place.place k _ few place i) missing;
      kept = h.kept ∙ bit.kept;
    }
