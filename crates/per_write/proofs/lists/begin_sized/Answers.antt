use Rattle.std.proofs.Common.{◌∙◌, refl, sym, rules}
use Rattle.std.proofs.lemmas.Result.{IfOk-weaker}
use Rattle.per_core.proofs.ConstrainedLengths.{constrained_is, free_is}
use Rattle.per_write.proofs.Counting.{allowed_least, allowed_most}
use Rattle.per_write.proofs.Elements.{begins_constrained, begins_free}
use Rattle.per_write.proofs.lists.begin_sized.Goals as goal

pub put_constrained_length-requires-clause-lower : goal.put_constrained_length-requires-clause-lower
put_constrained_length-requires-clause-lower g c =
    let b = constrained_is c.args.lower c.args.upper c.in-Some.lower c.in-Some.upper (sym c.constrained_bounds.ensures ∙ c.in-Some.is) in
    allowed_least c.args.lower c.args.upper _ _ _ _ b.lower b.upper refl c.requires.within

pub put_constrained_length-requires-clause-upper : goal.put_constrained_length-requires-clause-upper
put_constrained_length-requires-clause-upper g c =
    let b = constrained_is c.args.lower c.args.upper c.in-Some.lower c.in-Some.upper (sym c.constrained_bounds.ensures ∙ c.in-Some.is) in
    allowed_most c.args.lower c.args.upper c.in-Some.lower _ _ _ b.lower b.upper refl c.requires.within

pub returns-in_ok-put_constrained_length-in-Some : goal.returns-in_ok-put_constrained_length-in-Some
returns-in_ok-put_constrained_length-in-Some g c =
    let b = constrained_is c.args.lower c.args.upper c.in-Some.lower c.in-Some.upper (sym c.constrained_bounds.ensures ∙ c.in-Some.is) in
    record {
      ok = begins_constrained c.args.writer.now c.put_constrained_length.new.self c.args.lower c.args.upper c.in-Some.lower c.in-Some.upper c.args.count c.args.around b c.requires.within c.in_ok-put_constrained_length-in-Some.ensures.ok;
      stated = search rules;
      err = search rules;
      fails = search rules;
      kept = search rules;
    }

pub returns-in-None : goal.returns-in-None
returns-in-None g c =
    let free = free_is c.args.lower c.args.upper (sym c.constrained_bounds.ensures ∙ c.in-None.is) in
    record {
      ok = IfOk-weaker c.begin_fragment.result _ _ (λ l. begins_free c.args.writer.now c.begin_fragment.new.writer c.args.lower c.args.upper c.args.count l free c.requires.within) c.begin_fragment.ensures.ok;
      stated = search rules;
      err = search rules;
      fails = search rules;
      kept = search rules;
    }
