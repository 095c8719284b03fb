use Rattle.std.proofs.lemmas.Result.{err_from_is_err_and}
use Rattle.std.proofs.Common.{◌∙◌, ap, Err}
use Rattle.per_enc.specs.Rules.{fresh}
use Rattle.rasn_per.proofs.Encoded.{written, refused}
use Rattle.rasn_per.proofs.complete.encode_over.Goals as goal

pub returns : goal.returns
returns g c =
    written c.args.codec _ _ _ _ _ c.output.result (c.new_with_output-encoder.ensures ∙ ap fresh c.encoder_options.ensures) c.in_ok-encode_as.ensures.law c.output.ensures.octets c.output.ensures.err

pub returns-in_err-encode_as : goal.returns-in_err-encode_as
returns-in_err-encode_as g c =
    let p = err_from_is_err_and c.from_residual.result c.from_residual.ensures.1 in
    refused c.args.codec _ (g.S.EncodeAs.schema c.args.schema.now) (g.S.EncodeAs.levels_of c.args.value.now) (g.S.EncodeAs.value_of c.args.value.now) _ _
    (c.new_with_output-encoder.ensures ∙ ap fresh c.encoder_options.ensures) (p.1 ∙ ap Err p.2) c.in_err-encode_as.ensures.law
