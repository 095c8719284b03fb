use Rattle.std.proofs.Common.{◌∙◌, true, false, arith, rules}
use Rattle.std.proofs.lemmas.Result.{on_ok_weaker}
use Rattle.rasn_types.specs.Variants.{variant_of, Variant}
use Rattle.per_write.proofs.Counting.{allowed_is, refuses_count, stated_mark, stated_size, wrote_inside, wrote_outside}
use Rattle.per_write.proofs.Writer.put_under_size.Goals as goal

pub returns-in_ok-put_bit-in-true-true : goal.returns-in_ok-put_bit-in-true-true
returns-in_ok-put_bit-in-true-true g c =
    let x = c.args.self.now in
    let lower = c.start_and_end-lower.result.0 in
    let upper = c.start_and_end-lower.result.1 in
    record {
      ok = on_ok_weaker _ (wrote_inside (λ (a : Variant). (g.I.ItemsToWrite.counted c.args.items.now).writers a) (g.I.ItemsToWrite.counted c.args.items.now).kind _ (record { least = lower; most = upper }) _ x c.put_bit.new.self c.put_sized.new.self
          (stated_mark c.args.size c.new.result c.unwrap_or-stated.result c.new.ensures.extensible c.unwrap_or-stated.ensures ∙ c.in-true-true.is-1)
          (stated_size c.args.size c.new.result c.unwrap_or-stated.result lower upper c.new.ensures.constraint c.unwrap_or-stated.ensures c.start_and_end-lower.ensures.start c.start_and_end-lower.ensures.end)
          (allowed_is c.unwrap_or-stated.result.constraint lower upper c.len-count.result _ true c.start_and_end-lower.ensures.start c.start_and_end-lower.ensures.end (c.len-count.ensures (variant_of x.codec)) (omega arith) c.in-true-true.ensures)
          c.in_ok-put_bit-in-true-true.ensures.ok)
          c.put_sized.ensures.ok;
      err = search rules;
      fails = search rules;
      kept = search rules;
    }

pub returns-in_ok-put_bit-in-false-true : goal.returns-in_ok-put_bit-in-false-true
returns-in_ok-put_bit-in-false-true g c =
    let x = c.args.self.now in
    let lower = c.start_and_end-lower.result.0 in
    let upper = c.start_and_end-lower.result.1 in
    record {
      ok = on_ok_weaker _ (wrote_outside (λ (a : Variant). (g.I.ItemsToWrite.counted c.args.items.now).writers a) (g.I.ItemsToWrite.counted c.args.items.now).kind _ (record { least = lower; most = upper }) _ x c.put_bit-in-false-true.new.self c.put_unconstrained_items.new.self
          (stated_mark c.args.size c.new.result c.unwrap_or-stated.result c.new.ensures.extensible c.unwrap_or-stated.ensures ∙ c.in-false-true.is-1)
          (stated_size c.args.size c.new.result c.unwrap_or-stated.result lower upper c.new.ensures.constraint c.unwrap_or-stated.ensures c.start_and_end-lower.ensures.start c.start_and_end-lower.ensures.end)
          (allowed_is c.unwrap_or-stated.result.constraint lower upper c.len-count.result _ false c.start_and_end-lower.ensures.start c.start_and_end-lower.ensures.end (c.len-count.ensures (variant_of x.codec)) (omega arith) c.in-false-true.ensures)
          c.in_ok-put_bit-in-false-true.ensures.ok)
          c.put_unconstrained_items.ensures.ok;
      err = search rules;
      fails = search rules;
      kept = search rules;
    }

pub returns-in-false-false : goal.returns-in-false-false
returns-in-false-false g c =
    let a = variant_of c.args.self.now.codec in
    let lower = c.start_and_end-lower.result.0 in
    let upper = c.start_and_end-lower.result.1 in
    record {
      ok = search rules;
      err = refuses_count _ _ _ _ c.refuse.result c.args.self.now lower upper c.len-count.result (c.len-count.ensures a)
          (stated_mark c.args.size c.new.result c.unwrap_or-stated.result c.new.ensures.extensible c.unwrap_or-stated.ensures ∙ c.in-false-false.is-1)
          (stated_size c.args.size c.new.result c.unwrap_or-stated.result lower upper c.new.ensures.constraint c.unwrap_or-stated.ensures c.start_and_end-lower.ensures.start c.start_and_end-lower.ensures.end)
          (allowed_is c.unwrap_or-stated.result.constraint lower upper c.len-count.result _ false c.start_and_end-lower.ensures.start c.start_and_end-lower.ensures.end (c.len-count.ensures a) (omega arith) c.in-false-false.ensures)
          c.refuse.ensures.error;
      fails = search rules;
      kept = search rules;
    }
