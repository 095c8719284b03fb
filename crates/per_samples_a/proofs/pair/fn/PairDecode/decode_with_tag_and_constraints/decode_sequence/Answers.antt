use mir.Syntax.{w128}
use mir.Val.{SFits}
use Rattle.std.proofs.Common.{rules, ◌∙◌}
use Rattle.std.proofs.lemmas.Int.{to_z-of_z}
use Rattle.std.proofs.lemmas.Result.{err_from_is_err_and}
use Rattle.rasn_below.specs.Calls.{reads_required, reads_end}
use Rattle.rasn_below.proofs.Reading.{fails_required, fails_after, required_read}
use Rattle.per_samples_a.proofs.pair.fn.PairDecode.decode_with_tag_and_constraints.decode_sequence.Goals as goal

pub returns-in_err-a : goal.returns-in_err-a
returns-in_err-a g c =
    let p = err_from_is_err_and c.from_residual.result c.from_residual.ensures.1 in
    record { law = rw (p.1, p.2) (fails_required g.met.D.Decoder.lawful c.in_err-a.ensures.law); kept = c.in_err-a.ensures.behaves.kept }

pub returns-in_err-b : goal.returns-in_err-b
returns-in_err-b g c =
    let p = err_from_is_err_and c.from_residual-in_err-b.result c.from_residual-in_err-b.ensures.1 in
    record {
      law = rw (p.1, p.2) (fails_after g.met.D.Decoder.lawful (reads_required c.in_ok-a.ensures.law) (fails_required g.met.D.Decoder.lawful c.in_err-b.ensures.law));
      kept = c.in_err-b.ensures.behaves.kept ∙ c.in_ok-a.ensures.behaves.kept;
    }

pub returns : goal.returns
returns g c =
    let in_range : SFits w128 c.in_ok-b.b = search rules in
    record {
      law = rw (to_z-of_z w128 c.in_ok-b.b in_range) (required_read _ c.in_ok-a.ensures.law (required_read _ c.in_ok-b.ensures.law reads_end));
      kept = c.in_ok-b.ensures.behaves.kept ∙ c.in_ok-a.ensures.behaves.kept;
    }
