use Rattle.std.proofs.Common.{rules}
use Rattle.std.proofs.lemmas.Result.{on_ok_weaker}
use Rattle.rasn_types.specs.Variants.{variant_of, Variant}
use Rattle.per_write.proofs.Counting.{wrote_fragment}
use Rattle.per_write.proofs.Writer.put_fragment.Goals as goal

pub returns : goal.returns
returns g c =
    let x = c.args.self.now in
    record {
      ok = on_ok_weaker _ (wrote_fragment (λ (a : Variant). (g.I.ItemsToWrite.counted c.args.items.now).writers a) x c.put_unconstrained_length.new.self c.put.new.writer c.args.start c.args.end c.requires.ordered (c.requires.within (variant_of x.codec)) c.in_ok-put_unconstrained_length.ensures.ok)
          c.put.ensures.ok;
      err = search rules;
      fails = search rules;
      kept = search rules;
    }
