use Rattle.std.proofs.Common.{sym}
use Rattle.std.proofs.lemmas.Result.{err_from_is_err_and}
use Rattle.rasn_sets.proofs.SetLaws.{set_read_around}
use Rattle.rasn_sets.proofs.record.SetKindDecodeKind.decode_value.Goals as goal

pub returns-in_err-set : goal.returns-in_err-set
returns-in_err-set g c =
    let p = err_from_is_err_and c.from_residual.result c.from_residual.ensures.1 in
    let q = set_read_around g.T.SetComponents.components.0 c.in_err-set.ensures
    (λ x r y w. rw (sym w.shows, sym w.leaves) w.met.0) (record { stays = λ x r y w. rw (sym w.shows, sym w.leaves) w.met.1 }) in
    record {
      law = rw (p.1, p.2) q.law;
      behaves = record { again = rw (p.1, p.2) q.behaves.again; fails = rw p.1 q.behaves.fails; kept = q.behaves.kept };
    }

pub returns : goal.returns
returns g c =
    let q = set_read_around g.T.SetComponents.components.0 c.in_ok-set.ensures
    (λ x r y w. rw (sym w.shows, sym w.leaves) w.met.0) (record { stays = λ x r y w. rw (sym w.shows, sym w.leaves) w.met.1 }) in
    record { law = q.law; behaves = record { again = q.behaves.again; fails = q.behaves.fails; kept = q.behaves.kept } }
