use Rattle.per_decoding.proofs.Scoping.InTurn.{none_past, record_complete}
use Rattle.per_decoding.specs.Turns.{is_uncounted, uncounted}
use Rattle.per_de.proofs.typed.DecoderDecoder.close_fields.Goals as goal

pub close_uncounted-requires : goal.close_uncounted-requires
close_uncounted-requires g c =
    let w = c.requires.in_turn in record_complete (λ n. uncounted) is_uncounted none_past w.opened.counts w.read
