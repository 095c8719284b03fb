use Rattle.std.proofs.Common.{◌≡◌, ◌+◌, ◌-◌, sym, arith, rules}
use Rattle.std.proofs.lemmas.Result.{on_ok_weaker}
use Rattle.per_enc.proofs.Enumerations.{presents_added, presents_root, root_below}
use Rattle.per_enc.proofs.enumerated.put_enumerated.Goals as goal

pub returns-in_ok-put_extension_bit : goal.returns-in_ok-put_extension_bit
returns-in_ok-put_extension_bit g c =
    record {
      ok = on_ok_weaker _ (presents_added c.args.writer.now c.put_extension_bit.new.self c.put_small.new.self g.E.Enumerated.roots g.E.Enumerated.addeds g.E.Enumerated.EXTENSIBLE c.EXTENSIBLE.result (g.E.AsnType.value c.args.value.now)
          c.enumeration_index-index.result c.enumeration_index-index.ensures (sym c.if-is_extended_variant.ensures) c.EXTENSIBLE.ensures c.in_ok-put_extension_bit.ensures.ok) c.put_small.ensures.ok;
      err = search rules;
      fails = search rules;
      kept = search rules;
    }

pub returns-in_ok-put_extension_bit-2 : goal.returns-in_ok-put_extension_bit-2
returns-in_ok-put_extension_bit-2 g c =
    let below = root_below g.E.Enumerated.roots g.E.Enumerated.addeds (g.E.AsnType.value c.args.value.now) c.enumeration_index-index.result c.enumeration_index-index.ensures (sym c.if-is_extended_variant.ensures) in
    let one_more : c.variance.result - 1 + 1 ≡ g.E.Enumerated.roots = omega (arith, c.variance.ensures, below) in
    record {
      ok = on_ok_weaker _ (presents_root c.args.writer.now c.put_extension_bit-else-is_extended_variant.new.self c.put_constrained_whole.new.self g.E.Enumerated.roots g.E.Enumerated.addeds g.E.Enumerated.EXTENSIBLE c.EXTENSIBLE-else-is_extended_variant.result (g.E.AsnType.value c.args.value.now)
          (c.variance.result - 1) c.enumeration_index-index.result c.enumeration_index-index.ensures (sym c.if-is_extended_variant.ensures) one_more c.EXTENSIBLE-else-is_extended_variant.ensures c.in_ok-put_extension_bit-2.ensures.ok) c.put_constrained_whole.ensures.ok;
      err = search rules;
      fails = search rules;
      kept = search rules;
    }
