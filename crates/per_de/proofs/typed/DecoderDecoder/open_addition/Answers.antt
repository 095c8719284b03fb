use Rattle.std.proofs.lemmas.Result.{err_from_is_err_and}
use Rattle.per_de.proofs.InTurn.{addition_awaits, addition_live, addition_opened, addition_unopened}
use Rattle.per_de.proofs.typed.DecoderDecoder.open_addition.Goals as goal

pub returns-in_err-scope : goal.returns-in_err-scope
returns-in_err-scope c =
    let p = err_from_is_err_and c.from_residual.result c.from_residual.ensures.1 in
    let t = c.enter_addition.new.self in
    let h = c.in_err-scope.ensures in
    record {
      law = rw (p.1, p.2) (addition_unopened c.args.self.now t t _ h.law);
      counts = rw p.1 tt;
      behaves = rw (p.1, p.2) (record { again = h.behaves.again; fails = h.behaves.fails; kept = h.behaves.kept });
    }
