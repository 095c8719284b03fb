use Rattle.std.proofs.Common.{sym, subst}
use Rattle.rasn_below.specs.Values.{truth}
use Rattle.rasn_below.specs.Types.{Schema}
use Rattle.rasn_below.specs.Calls.{ItemAnswered}
use Rattle.rasn_below.proofs.Reading.{item_answered, set_read_each}
use Rattle.per_samples_sets.proofs.ByItem.{is_boolean, made, none_after, place, slot}
use Rattle.per_samples_sets.proofs.set_each.SetEachDecode.decode_with_tag_and_constraints.Goals as goal

pub returns : goal.returns
returns g c =
    let rules = g.D.Decoder.rules in
    set_read_each c.decode_set.ensures place slot
    (λ n. record {
      root = λ i k p d s tag r t stands level named w.
          subst (λ z. ItemAnswered rules z place slot i s r t) (sym (is_boolean n stands))
          (item_answered rules Schema.boolean place (λ x. truth x.value) i s r t (rw (sym w.shows, sym w.leaves) w.met.1.0) w.met.1.1);
      behind = λ i k p d s tag r t stands level named w. absurd (none_after stands);
    })
    (λ n. record { makes = λ xs ys rs r gathered places w. made rules _ n xs ys _ rs r gathered places w.holds w.met.1 })
    (record { stays = λ s i tag r t w. rw (sym w.shows, sym w.leaves) w.met.1.0.behaves.kept })
