use Rattle.std.proofs.Common.{◌≡◌, ◌∙◌, ◌&&◌, sym, ap, ltb, rules}
use Rattle.std.proofs.lemmas.Result.{on_ok_weaker}
use Rattle.rasn_types.specs.Variants.{variant_of, Variant}
use Rattle.rasn_types.specs.declared.types.Codec.TheVariants.{Uper}
use Rattle.per_core.specs.Counts.{ItemKind, is_aligned}
use Rattle.per_core.proofs.ConstrainedLengths.{constrained_is, free_is}
use Rattle.per_write.proofs.Counting.{allowed_least, allowed_most, pads_none, pads_some, wrote_bounded, wrote_free, wrote_without_length}
use Rattle.per_write.proofs.Writer.put_sized.Goals as goal
use Rattle.per_write.proofs.Writer.put_sized.Goals.{then-count-gt0, else-count-gt0}

pub put_constrained_length-requires-clause-lower :
    goal.put_constrained_length-requires-clause-lower
put_constrained_length-requires-clause-lower g c =
    let a = variant_of c.args.self.now.codec in
    let b = constrained_is c.args.lower c.args.upper c.in-Some.lower c.in-Some.upper (sym c.constrained_bounds.ensures ∙ c.in-Some.is) in
    allowed_least c.args.lower c.args.upper _ _ _ _ b.lower b.upper (c.len-count.ensures a) (c.requires.within a)

pub put_constrained_length-requires-clause-upper :
    goal.put_constrained_length-requires-clause-upper
put_constrained_length-requires-clause-upper g c =
    let a = variant_of c.args.self.now.codec in
    let b = constrained_is c.args.lower c.args.upper c.in-Some.lower c.in-Some.upper (sym c.constrained_bounds.ensures ∙ c.in-Some.is) in
    allowed_most c.args.lower c.args.upper c.in-Some.lower _ _ _ b.lower b.upper (c.len-count.ensures a) (c.requires.within a)

pub returns-then-is_without_length : goal.returns-then-is_without_length
returns-then-is_without_length g c =
    let x = c.args.self.now in
    let a = variant_of x.codec in
    let b = constrained_is c.args.lower c.args.upper c.in-Some.lower c.in-Some.upper (sym c.constrained_bounds.ensures ∙ c.in-Some.is) in
    let only = c.is_without_length.ensures.0 c.if-is_without_length.true in
    let codec : x.codec ≡ Uper = search (rules, only) in
    record {
      ok = on_ok_weaker _ (wrote_without_length (λ (b : Variant). (g.I.ItemsToWrite.counted c.args.items.now).writers b) (g.I.ItemsToWrite.counted c.args.items.now).kind x c.put.new.writer c.args.lower c.args.upper
          c.in-Some.lower c.in-Some.upper c.len-count.result c.requires.begun b (c.len-count.ensures a) (c.requires.within a) (ap variant_of codec) only.1
          (allowed_least c.args.lower c.args.upper _ _ _ _ b.lower b.upper (c.len-count.ensures a) (c.requires.within a))
          (allowed_most c.args.lower c.args.upper c.in-Some.lower _ _ _ b.lower b.upper (c.len-count.ensures a) (c.requires.within a)))
          c.put.ensures.ok;
      err = search rules;
      fails = search rules;
      kept = search rules;
    }

pub returns-in_ok-put_constrained_length-in-Some :
    goal.returns-in_ok-put_constrained_length-in-Some
returns-in_ok-put_constrained_length-in-Some g c =
    let x = c.args.self.now in
    let a = variant_of x.codec in
    let b = constrained_is c.args.lower c.args.upper c.in-Some.lower c.in-Some.upper (sym c.constrained_bounds.ensures ∙ c.in-Some.is) in
    let on_octet = is_aligned (g.I.ItemsToWrite.counted c.args.items.now).kind c.in-Some.lower c.in-Some.upper in
    let pads : c.if-count-gt0.on_octet ≡ (ltb 0 c.len-count.result && on_octet) =
    elim c.if-count-gt0.branch [
      | then-count-gt0 w ↦ pads_some c.len-count.result c.if-count-gt0.on_octet on_octet w.if-count-gt0.true (w.on_octet-is ∙ w.is_aligned-on_octet.ensures ∙ ap (λ (k : ItemKind). is_aligned k c.in-Some.lower c.in-Some.upper) w.item.ensures)
      | else-count-gt0 w ↦ pads_none c.len-count.result c.if-count-gt0.on_octet on_octet w.if-count-gt0.false w.on_octet-is
    ] in
    record {
      ok = on_ok_weaker _ (wrote_bounded (λ (b : Variant). (g.I.ItemsToWrite.counted c.args.items.now).writers b) (g.I.ItemsToWrite.counted c.args.items.now).kind x c.put_constrained_length.new.self c.put-in-Some.new.writer c.args.lower c.args.upper
          c.in-Some.lower c.in-Some.upper c.len-count.result c.if-count-gt0.on_octet b (c.len-count.ensures a) (c.requires.within a) pads c.in_ok-put_constrained_length-in-Some.ensures.ok)
          c.put-in-Some.ensures.ok;
      err = search rules;
      fails = search rules;
      kept = search rules;
    }

pub returns-in-None : goal.returns-in-None
returns-in-None g c =
    let x = c.args.self.now in
    let a = variant_of x.codec in
    let items = g.I.ItemsToWrite.counted c.args.items.now in
    let free = free_is c.args.lower c.args.upper (sym c.constrained_bounds.ensures ∙ c.in-None.is) in
    record {
      ok = on_ok_weaker _ (wrote_free (items.writers a) items.kind x c.put_unconstrained_items.new.self c.args.lower c.args.upper free (c.requires.within a)) c.put_unconstrained_items.ensures.ok;
      err = search rules;
      fails = search rules;
      kept = search rules;
    }
