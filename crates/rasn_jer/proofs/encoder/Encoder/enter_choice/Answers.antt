use Rattle.std.proofs.Common.{ap, ◌∙◌}
use Rattle.std.proofs.lemmas.Result.{err_from_is_err_and}
use Rattle.rasn_jer.specs.Frames.{unfailed_at}
use Rattle.rasn_jer.proofs.encoder.Encoder.enter_choice.Goals as goal

pub returns : goal.returns
returns g c =
    let w = c.in_ok-outer.ensures.entered in
    record {
      opened = record { begun = w.0; outer = w.1; within = w.2 ∙ ap unfailed_at c.new-place.ensures };
      err = tt;
      behaves = (let b = c.in_ok-outer.ensures.behaves in record { again = λ q. b.again q; fails = tt; kept = b.kept });
    }

pub returns-in_err-outer : goal.returns-in_err-outer
returns-in_err-outer g c =
    let p = err_from_is_err_and c.from_residual.result c.from_residual.ensures.1 in
    rw (p.1, p.2) (record {
      opened = tt;
      err = c.in_err-outer.ensures.entered;
      behaves = (let b = c.in_err-outer.ensures.behaves in record { again = λ q. b.again q; fails = b.fails; kept = b.kept });
    })
