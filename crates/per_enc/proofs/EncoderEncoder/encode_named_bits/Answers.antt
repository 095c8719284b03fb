use Rattle.std.proofs.Common.{refl, ◌∙◌}
use Rattle.std.proofs.lemmas.Result.{err_from_is_err_and}
use Rattle.per_enc.proofs.Noting.{already_refused, writes_noted}
use Rattle.per_enc.proofs.EncoderEncoder.encode_named_bits.Goals as goal

pub returns : goal.returns
returns g c = writes_noted c.args.self.now _ _ _ _ c.put_named_bits.result (c.self.view_is ∙ c.in_ok-begin_value.ensures.noted) c.in_ok-begin_value.ensures.ok c.put_named_bits.ensures refl

pub returns-in_err-begin_value : goal.returns-in_err-begin_value
returns-in_err-begin_value g c =
    let p = err_from_is_err_and c.from_residual.result c.from_residual.ensures.1 in
    already_refused c.args.self.now c.begin_value.new.self _ _ c.from_residual.result _ p.0 p.1 p.2 c.in_err-begin_value.ensures.err c.in_err-begin_value.ensures.failed c.in_err-begin_value.ensures.stays
