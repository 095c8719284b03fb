use Rattle.std.proofs.Common.{◌<◌, length, refl, arith}
use Rattle.std.proofs.lemmas.Option.{slice_get_read}
use Rattle.lawful_types.specs.OneLevel.{IsNewerAlternative}
use Rattle.lawful_types.proofs.Fronts.{alternative_more, front_then}
use Rattle.lawful_types.proofs.Parts.{along_more, along_weaker, alternatives_newer}
use Rattle.lawful_types.proofs.components.compare_alternatives.Goals as goal

pub loop-index-preserved : goal.loop-index-preserved
loop-index-preserved c =
    let xs = c.args.newer.now in let ys = c.args.older.now in let i = c.loop-index.index in
    let ps = c.loop-index.pairs.items in let qs = c.compare_alternative.new.pairs.items in
    let x = c.index-newer-index.result in let y = c.index-older-index.result in
    let low : i < length ys = c.loop-index-test.true in
    let high : i < length xs = omega (arith, low, c.in_ok-compare_counts.ensures.none_left_out) in
    let f = c.compare_alternative.ensures.front in
    record {
      front = front_then c.args.pairs.now.items ps qs c.loop-index.invariant.front f;
      along = along_more (IsNewerAlternative qs) xs ys i x y (slice_get_read xs (length xs) i x refl high c.index-newer-index.is) (slice_get_read ys (length ys) i y refl low c.index-older-index.is)
          c.in_ok-compare_alternative.ensures.newer
          (along_weaker (IsNewerAlternative ps) (IsNewerAlternative qs) xs ys i (λ v w h. alternative_more ps qs v w f h) c.loop-index.invariant.along);
    }

pub returns-clause-newer : goal.returns-clause-newer
returns-clause-newer c =
    alternatives_newer c.args.behind c.loop-index.pairs.items c.args.newer.now c.args.older.now c.loop-index.index c.loop-index-test.false c.in_ok-compare_counts.ensures.none_put_in c.loop-index.invariant.along
