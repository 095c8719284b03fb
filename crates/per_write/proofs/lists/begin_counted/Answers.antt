use Rattle.std.proofs.Common.{◌∙◌, true, false, refl, arith, rules}
use Rattle.std.proofs.lemmas.Result.{IfOk-weaker}
use Rattle.per_write.proofs.Counting.{allowed_is, stated_mark, stated_size}
use Rattle.per_write.proofs.Elements.{begins_bare, begins_inside, begins_outside, refuses_count_of}
use Rattle.per_write.proofs.lists.begin_counted.Goals as goal

pub returns-in-true-false : goal.returns-in-true-false
returns-in-true-false g c =
    let lower = c.start_and_end-lower.result.0 in
    let upper = c.start_and_end-lower.result.1 in
    record {
      ok = IfOk-weaker c.begin_sized-in-true-false.result _ _ (λ l. begins_bare _ (record { least = lower; most = upper }) _ c.args.writer.now c.begin_sized-in-true-false.new.writer c.args.count l
          (stated_mark c.args.size c.new.result c.unwrap_or-stated.result c.new.ensures.extensible c.unwrap_or-stated.ensures ∙ c.in-true-false.is-1)
          (stated_size c.args.size c.new.result c.unwrap_or-stated.result lower upper c.new.ensures.constraint c.unwrap_or-stated.ensures c.start_and_end-lower.ensures.start c.start_and_end-lower.ensures.end))
          c.begin_sized-in-true-false.ensures.ok;
      stated = search rules;
      err = search rules;
      fails = search rules;
      kept = search rules;
    }

pub returns-in_ok-put_bit-in-true-true : goal.returns-in_ok-put_bit-in-true-true
returns-in_ok-put_bit-in-true-true g c =
    let lower = c.start_and_end-lower.result.0 in
    let upper = c.start_and_end-lower.result.1 in
    record {
      ok = IfOk-weaker c.begin_sized.result _ _ (λ l. begins_inside _ (record { least = lower; most = upper }) _ c.args.writer.now c.put_bit.new.self c.begin_sized.new.writer c.args.count l
          (stated_mark c.args.size c.new.result c.unwrap_or-stated.result c.new.ensures.extensible c.unwrap_or-stated.ensures ∙ c.in-true-true.is-1)
          (stated_size c.args.size c.new.result c.unwrap_or-stated.result lower upper c.new.ensures.constraint c.unwrap_or-stated.ensures c.start_and_end-lower.ensures.start c.start_and_end-lower.ensures.end)
          (allowed_is c.unwrap_or-stated.result.constraint lower upper c.args.count c.args.count true c.start_and_end-lower.ensures.start c.start_and_end-lower.ensures.end refl (omega arith) c.in-true-true.ensures)
          c.in_ok-put_bit-in-true-true.ensures.ok)
          c.begin_sized.ensures.ok;
      stated = search rules;
      err = search rules;
      fails = search rules;
      kept = search rules;
    }

pub returns-in_ok-put_bit-in-false-true : goal.returns-in_ok-put_bit-in-false-true
returns-in_ok-put_bit-in-false-true g c =
    let lower = c.start_and_end-lower.result.0 in
    let upper = c.start_and_end-lower.result.1 in
    record {
      ok = IfOk-weaker c.begin_fragment.result _ _ (λ l. begins_outside _ (record { least = lower; most = upper }) _ c.args.writer.now c.put_bit-in-false-true.new.self c.begin_fragment.new.writer c.args.count l (omega arith)
          (stated_mark c.args.size c.new.result c.unwrap_or-stated.result c.new.ensures.extensible c.unwrap_or-stated.ensures ∙ c.in-false-true.is-1)
          (stated_size c.args.size c.new.result c.unwrap_or-stated.result lower upper c.new.ensures.constraint c.unwrap_or-stated.ensures c.start_and_end-lower.ensures.start c.start_and_end-lower.ensures.end)
          (allowed_is c.unwrap_or-stated.result.constraint lower upper c.args.count c.args.count false c.start_and_end-lower.ensures.start c.start_and_end-lower.ensures.end refl (omega arith) c.in-false-true.ensures)
          c.in_ok-put_bit-in-false-true.ensures.ok)
          c.begin_fragment.ensures.ok;
      stated = search rules;
      err = search rules;
      fails = search rules;
      kept = search rules;
    }

pub returns-in-false-false : goal.returns-in-false-false
returns-in-false-false g c =
    let lower = c.start_and_end-lower.result.0 in
    let upper = c.start_and_end-lower.result.1 in
    record {
      ok = search rules;
      stated = search rules;
      err = refuses_count_of _ _ c.refuse.result c.args.writer.now lower upper c.args.count
          (stated_mark c.args.size c.new.result c.unwrap_or-stated.result c.new.ensures.extensible c.unwrap_or-stated.ensures ∙ c.in-false-false.is-1)
          (stated_size c.args.size c.new.result c.unwrap_or-stated.result lower upper c.new.ensures.constraint c.unwrap_or-stated.ensures c.start_and_end-lower.ensures.start c.start_and_end-lower.ensures.end)
          (allowed_is c.unwrap_or-stated.result.constraint lower upper c.args.count c.args.count false c.start_and_end-lower.ensures.start c.start_and_end-lower.ensures.end refl (omega arith) c.in-false-false.ensures)
          c.refuse.ensures.error;
      fails = search rules;
      kept = search rules;
    }
