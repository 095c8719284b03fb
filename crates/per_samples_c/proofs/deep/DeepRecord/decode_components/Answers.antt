use Rattle.std.proofs.Common.{rules}
use Rattle.std.proofs.lemmas.Result.{err_from_is_err_and}
use Rattle.rasn_below.specs.Calls.{reads_end, reads_next}
use Rattle.rasn_traits.specs.Scopes.{AreRead}
use Rattle.rasn_below.proofs.Reading.{fails_part, fails_root, plainly_read}
use Rattle.per_samples_c.specs.Deeps.{nest_with}
use Rattle.per_samples_c.proofs.deep.DeepRecord.decode_components.Goals as goal

pub returns-in_err-d : goal.returns-in_err-d
returns-in_err-d g c =
    let p = err_from_is_err_and c.from_residual.result c.from_residual.ensures.1 in
    let w = c.in_err-d.ensures.law (nest_with 199) (record { makes = λ x r. r.1.1 }) in
    record { law = rw (p.1, p.2) (fails_root g.met.D.Decoder.lawful (fails_part g.met.D.Decoder.lawful w)); fails = search rules; kept = search rules }

pub returns : goal.returns
unfolding AreRead
returns g c =
    let w = c.in_ok-d.ensures.law (nest_with 199) (record { makes = λ x r. r.1.1 }) in
    record { law = plainly_read (reads_next w reads_end); fails = search rules; kept = search rules }
