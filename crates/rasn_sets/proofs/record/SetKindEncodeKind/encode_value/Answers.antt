use Rattle.std.proofs.Common.{sym}
use Rattle.rasn_sets.proofs.SetLaws.{set_written_around}
use Rattle.rasn_sets.proofs.record.SetKindEncodeKind.encode_value.Goals as goal

pub returns : goal.returns
returns g c = let v = c.args.value.now in
    set_written_around g.T.SetComponents.components.0 (g.T.SetComponents.contents v) (g.T.SetComponents.added v) (g.T.SetComponents.depth v)
    (g.T.SetComponents.counted v) c.encode_set_in_order.ensures
    (λ x r y w. rw (sym w.shows, sym w.leaves) w.met.0) (record { stays = λ x r y w. rw (sym w.shows, sym w.leaves) w.met.1 })
