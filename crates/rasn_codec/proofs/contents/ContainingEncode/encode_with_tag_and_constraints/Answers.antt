use Rattle.std.proofs.Common.{rules}
use Rattle.std.proofs.lemmas.Result.{err_from_is_err_and}
use Rattle.rasn_codec.proofs.Contained.{value_refused, value_written}
use Rattle.rasn_codec.proofs.contents.ContainingEncode.encode_with_tag_and_constraints.Goals as goal

pub returns-in_err-encode : goal.returns-in_err-encode
returns-in_err-encode g c =
    let o = c.in_ok-outside.ensures.law in
    let p = err_from_is_err_and c.from_residual-in_err-encode.result c.from_residual-in_err-encode.ensures.1 in
    record {
      law = rw (p.1, p.2) (value_refused g.E.Encoder.rules g.E.Encoder.opens_contents _ _ _ c.args.encoder.now _ c.open_contents.new.self c.encode.new.encoder c.encode.new.encoder o.1 c.in_err-encode.ensures.law);
      behaves = search rules;
    }

pub returns : goal.returns
returns g c =
    let o = c.in_ok-outside.ensures.law in
    record {
      law = value_written g.E.Encoder.rules g.E.Encoder.opens_contents _ _ _ c.args.encoder.now _ c.open_contents.new.self c.encode.new.encoder _ _ _ o.0 c.in_ok-encode.ensures.law c.close_contents.ensures;
      behaves = search rules;
    }
