use Rattle.std.proofs.Common.{refl, inl, rules}
use Rattle.std.proofs.lemmas.Result.{on_ok_weaker}
use Rattle.rasn_types.specs.Variants.{variant_of}
use Rattle.per_write.proofs.Unbounded.{under_none, whole_written}
use Rattle.per_write.proofs.Writing.{wrote_same}
use Rattle.per_enc.proofs.integers.put_within.Goals as goal

pub returns-in-None-None : goal.returns-in-None-None
returns-in-None-None g c =
    record {
      ok = rw (← c.start_and_end-lower.ensures.start, ← c.start_and_end-lower.ensures.end, c.in-None-None.is-0, c.in-None-None.is-1)
          (on_ok_weaker _ (wrote_same c.args.writer.now _ _ _ (under_none (variant_of c.args.writer.now.codec) _ (g.I.IntegerType.number c.args.value.now) (inl refl))) (whole_written _ _ _ _ _ c.put_unconstrained_whole.ensures.ok));
      err = search rules;
      fails = search rules;
      kept = search rules;
    }
