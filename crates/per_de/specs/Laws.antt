-- The laws of the decoder's lists: one that is open is still open.
use Rattle.std.proofs.Common.{ap, ◌∙◌}
use Rattle.rasn_traits.specs.Lists.{ListsWell}
use Rattle.per_decoding.proofs.Scoping.InTurn.{not_within}
use Rattle.per_decoding.specs.Rules.{decoder_rules}
use Rattle.per_decoding.specs.Turns.{is_complete, is_uncounted, next}
use Rattle.per_de.specs.Lists.{IsCountedList, IsListInTurn}

pub elements_well : ListsWell decoder_rules IsListInTurn
elements_well = record {
  still = λ e size mark s vs l i a. record {
    live = ap (λ z. z.failed) a.list.same ∙ a.list.live;
    within = λ c. let w = not_within (next s.turn) c in (ap is_uncounted a.within ∙ w.0, ap is_complete a.within ∙ w.1);
  };
}

pub lists_well : ListsWell decoder_rules IsCountedList
lists_well = record {
  still = λ e size mark s vs l i a. record {
    live = ap (λ z. z.failed) a.list.same ∙ a.list.live;
    within = λ c. (ap is_uncounted a.within, ap is_complete a.within);
  };
}
