use Rattle.std.proofs.lemmas.Result.{err_from_is_err_and}
use Rattle.rasn_schema.specs.Choices.{choices_of}
use Rattle.rasn_schema.specs.Structures.{tag_of}
use Rattle.rasn_traits.proofs.Places.{placed_to_read, stands_place}
use Rattle.per_decoding.specs.Rules.{decoder_rules}
use Rattle.per_de.specs.InTurn.{is_choice_in_turn}
use Rattle.per_de.proofs.Choosing.{goes_by}
use Rattle.per_de.proofs.typed.DecoderDecoder.open_choice.Goals as goal

pub tag_at-requires : goal.tag_at-requires
tag_at-requires g c =
    let C = g.C.Choice in
    stands_place C.VARIANTS C.EXTENDED_VARIANTS c.in_ok-place.place (rw c.alternative_counts.ensures at c.in_ok-place.ensures.place)

pub returns-in_err-place : goal.returns-in_err-place
returns-in_err-place g c =
    let C = g.C.Choice in
    let p = err_from_is_err_and c.from_residual.result c.from_residual.ensures.1 in
    let h = placed_to_read decoder_rules is_choice_in_turn C.alternatives C.added C.VARIANTS C.EXTENDED_VARIANTS C.described C.extends c.args.self.now _ c.begin_alternative.new.self
    (rw c.alternative_counts.ensures at c.in_err-place.ensures) in
    record { law = rw (p.1, p.2) h.law; counts = rw p.1 tt; behaves = rw (p.1, p.2) (let b = h.behaves in record { again = b.again; fails = b.fails; kept = b.kept }) }

pub returns : goal.returns
returns g c =
    let C = g.C.Choice in
    let h = placed_to_read decoder_rules is_choice_in_turn C.alternatives C.added C.VARIANTS C.EXTENDED_VARIANTS C.described C.extends c.args.self.now _ c.begin_alternative.new.self
    (rw c.alternative_counts.ensures at c.in_ok-place.ensures) in
    record {
      law = goes_by decoder_rules is_choice_in_turn (choices_of C.alternatives C.EXTENDED_VARIANTS C.added) C.VARIANTS C.EXTENDED_VARIANTS (tag_of c.tag_at.result) c.in_ok-place.place c.args.self.now c.in_ok-place.outside
          c.begin_alternative.new.self C.are_variants c.tag_at.ensures h.law;
      counts = h.counts;
      behaves = (let b = h.behaves in record { again = b.again; fails = b.fails; kept = b.kept });
    }
