use Rattle.std.proofs.Common.{arith, ◌∙◌}
use Rattle.std.proofs.lemmas.Result.{err_from_is_err_and}
use Rattle.rasn_below.specs.Types.{normal, settle}
use Rattle.rasn_below.proofs.Writing.{required_refused, required_written, last_written}
use Rattle.per_samples_sets.proofs.set_pair.fn.SetPairEncode.encode_with_tag_and_constraints.encode_set.Goals as goal

pub returns-in_err-encode_with_tag : goal.returns-in_err-encode_with_tag
unfolding normal settle
returns-in_err-encode_with_tag g c =
    let p = err_from_is_err_and c.from_residual.result c.from_residual.ensures.1 in record {
      law = rw (p.1, p.2) (record { at = λ n le. required_refused g.E.Encoder.rules (c.in_err-encode_with_tag.ensures.law.at n (omega arith)) });
      kept = c.in_err-encode_with_tag.ensures.behaves.kept;
    }

pub returns : goal.returns
unfolding normal settle
returns g c = record {
  law = record {
    at = λ n le.
        required_written g.E.Encoder.rules g.met.E.Encoder.lawful _ _ _ _ _ _ _ (c.in_ok-encode_with_tag.ensures.law.at n (omega arith)) _ _
        (last_written g.E.Encoder.rules _ _ _ _ _ _ (c.encode_with_tag-2.ensures.law.at n (omega arith)));
  };
  kept = c.encode_with_tag-2.ensures.behaves.kept ∙ c.in_ok-encode_with_tag.ensures.behaves.kept;
}
