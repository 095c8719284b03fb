use Rattle.std.proofs.Common.{◌≡◌, ◌+◌, ◌-◌, ◌*◌, ◌/◌, arith, rules}
use Rattle.std.proofs.lemmas.Result.{on_ok_weaker}
use Rattle.rasn_types.specs.Variants.{variant_of, Variant}
use Rattle.per_pieces.proofs.Fragments.{first_fragment}
use Rattle.per_write.proofs.Counting.{fragment_written, last_written}
use Rattle.per_write.proofs.Writing.{remains_all}
use Rattle.per_write.proofs.Writer.put_unconstrained_items.Goals as goal

pub loop-start-init : goal.loop-start-init
loop-start-init g c = record { written = remains_all c.args.self.now _ c.requires; within = omega arith }

pub loop-start-preserved : goal.loop-start-preserved
loop-start-preserved g c =
    let x = c.args.self.now in
    let start = c.loop-start.start in
    let n = c.len-count.result in
    let end : start + c.min.result / 16384 * 16384 ≡ start + first_fragment (n - start) = omega (arith, c.min.ensures) in
    record {
      written = fragment_written (λ (a : Variant). (g.I.ItemsToWrite.counted c.args.items.now).writers a) x c.loop-start.self c.put_fragment.new.self start (start + c.min.result / 16384 * 16384) n
          (c.len-count.ensures (variant_of x.codec)) (omega arith) end c.loop-start.invariant.written c.in_ok-put_fragment.ensures.ok;
      within = omega arith;
    }

pub loop-start-smaller : goal.loop-start-smaller
loop-start-smaller g c = omega arith

pub returns : goal.returns
returns g c =
    let x = c.args.self.now in
    record {
      ok = on_ok_weaker _ (last_written (λ (a : Variant). (g.I.ItemsToWrite.counted c.args.items.now).writers a) (g.I.ItemsToWrite.counted c.args.items.now).kind x c.loop-start.self c.put_fragment-2.new.self c.loop-start.start c.len-count.result
          (c.len-count.ensures (variant_of x.codec)) (omega arith) c.loop-start.invariant.within (omega arith) c.loop-start.invariant.written)
          c.put_fragment-2.ensures.ok;
      err = search rules;
      fails = search rules;
      kept = search rules;
    }
