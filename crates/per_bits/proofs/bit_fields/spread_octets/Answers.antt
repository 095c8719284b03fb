use Rattle.std.proofs.Common.{◌∙◌, ◌+◌, ◌-◌, ◌≤◌, length, refl, arith}
use Rattle.std.proofs.lemmas.Slice.{between_to_end}
use Rattle.per_bits.proofs.Eights.{length_put}
use Rattle.per_bits.proofs.Spreads.{eight_on, numbers_of, place_within, spread_done, spread_more}
use Rattle.per_bits.proofs.bit_fields.spread_octets.Goals as goal

pub spread-requires-clause-below : goal.spread-requires-clause-below
spread-requires-clause-below c = (numbers_of c.args.width c.args.skip c.load_next_word.result _ c.requires.width c.requires.within.few refl).below

pub loop-at-preserved : goal.loop-at-preserved
loop-at-preserved c =
    let at = c.loop-at.at in
    let place = c.loop-at.place in
    let from = c.args.from.now in
    let room : at + 8 ≤ length c.loop-at.octets = omega (arith, c.loop-at.invariant.long, c.requires.room, c.loop-at-test.true) in
    let bytes = c.copy_from_slice.ensures.after ∙ c.to_be_bytes.ensures in
    let within = place_within c.args.width c.args.skip at place c.args.count from (omega (arith, c.loop-at-test.true)) c.loop-at.invariant.place c.requires.within.enough in
    record {
      long = length_put at (at + 8 - at) c.spread.result c.loop-at.octets c.copy_from_slice.new.self (omega arith) room bytes ∙ c.loop-at.invariant.long;
      few = omega (arith, c.loop-at-test.true);
      place = eight_on c.args.width at place c.loop-at.invariant.place;
      bits = spread_more c.args.width c.args.skip at place (at + 8 - at) c.load_next_word.result _ c.spread.result c.loop-at.octets c.copy_from_slice.new.self from _ c.requires.width c.requires.within.few within (between_to_end from place (length from) (omega arith)) (omega arith) room
          c.loop-at.invariant.place c.load_next_word.ensures (numbers_of c.args.width c.args.skip c.load_next_word.result _ c.requires.width c.requires.within.few refl) c.spread.ensures bytes c.loop-at.invariant.bits;
    }

pub returns-clause-bits : goal.returns-clause-bits
returns-clause-bits c =
    spread_done c.args.width c.args.skip c.loop-at.at c.args.count c.loop-at.octets c.args.from.now (omega (arith, c.loop-at-test.false)) (omega (arith, c.loop-at.invariant.few, c.loop-at.invariant.long, c.requires.room)) c.requires.within.enough c.loop-at.invariant.bits
