use Rattle.std.proofs.Common.{refl, Err}
use Rattle.std.proofs.lemmas.Result.{err_from_is_err_and}
use Rattle.rasn_dynamic_codec.proofs.Putting.{value_put}
use Rattle.rasn_dynamic_codec.proofs.read_simple.put_boolean.Goals as goal

pub returns-in_err-value : goal.returns-in_err-value
returns-in_err-value g c =
    let p = err_from_is_err_and c.from_residual.result c.from_residual.ensures.1 in
    rw (p.1, p.2) (record { answer = Err _; put = refl; owed = c.in_err-value.ensures })

pub returns : goal.returns
returns g c = value_put g.met.D.Decoder.lawful _ _ _ _ _ _ _ _ c.in_ok-value.ensures c.put.ensures.held c.put.ensures.behind
