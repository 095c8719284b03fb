use Rattle.std.proofs.Common.{◌∙◌, sym, refl, rules}
use Rattle.std.proofs.lemmas.Result.{IfOk-at_ok}
use Rattle.rasn_types.specs.Contents.{generalized}
use Rattle.per_enc.proofs.Moments.{passes_unless, time_law, unwritten_law}
use Rattle.per_enc.proofs.times.put_generalized_time.Goals as goal

pub returns-in_err-text : goal.returns-in_err-text
returns-in_err-text g c =
    record {
      law = rw (← c.in_ok-alloc.ensures.kept)
          (unwritten_law c.allocator.new.self c.unless_unwritten.new.writer generalized _ _ c.to_canonical_generalized_time_bytes-text.result _ c.from_residual-in_err-text.result
          c.from_residual-in_err-text.ensures.1 refl c.to_canonical_generalized_time_bytes-text.ensures.refused.0 c.in_err-text.ensures.err);
      behaves = search rules;
    }

pub returns : goal.returns
returns g c =
    let ok = c.in_ok-text.ensures.ok in
    record {
      law = rw (← (c.in_ok-text.ensures.kept ∙ c.in_ok-alloc.ensures.kept))
          (time_law c.unless_unwritten.new.writer c.put_text.new.writer generalized _ c.deref.result.now c.put_text.result (c.deref.ensures.value ∙ IfOk-at_ok _ ok c.to_canonical_generalized_time_bytes-text.ensures.written)
          (passes_unless _ c.in_ok-text.text _ (λ n. sym ok ∙ c.to_canonical_generalized_time_bytes-text.ensures.refused.1 n)) c.put_text.ensures);
      behaves = search rules;
    }
