use Rattle.std.proofs.Common.{refl, rules}
use Rattle.std.proofs.lemmas.Result.{err_from_is_err_and}
use Rattle.rasn_schema.specs.Schemas.{Schema}
use Rattle.per_decoding.specs.State.{noting}
use Rattle.per_de.proofs.Calls.{failed_refuses, real_refused}
use Rattle.per_de.proofs.InTurn.{refused_noted}
use Rattle.per_de.proofs.typed.DecoderDecoder.decode_real.Goals as goal

pub returns-in_err-begin_value : goal.returns-in_err-begin_value
returns-in_err-begin_value c =
    let p = err_from_is_err_and c.from_residual.result c.from_residual.ensures.1 in
    record {
      law = rw (p.1, p.2) (refused_noted Schema.real _ refl (failed_refuses Schema.real (noting c.args.self.now) _ c.in_err-begin_value.ensures.err c.in_err-begin_value.ensures.failed));
      behaves = search rules;
    }

pub returns : goal.returns
returns c = record { law = refused_noted Schema.real _ c.in_ok-begin_value.ensures.noted (real_refused c.begin_value.new.self _ c.refuse.ensures.error); behaves = search rules }
