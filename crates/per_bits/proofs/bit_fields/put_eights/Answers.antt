use Rattle.std.proofs.Common.{◌≡◌, ◌∙◌, ◌≤◌, ◌+◌, ◌%◌, length-drop, ◌-◌, ◌*◌, ◌/◌, ◌++◌, length, drop, sym, ap, refl, arith}
use Rattle.std.proofs.lemmas.Slice.{between_to_end}
use Rattle.per_bits.specs.Octets.{low_bits_of}
use Rattle.per_bits.proofs.Eights.{eight_less, eight_more, first_bits, last_put, length_put, none_left}
use Rattle.per_bits.proofs.bit_fields.put_eights.Goals as goal

pub loop-rest-init : goal.loop-rest-init
loop-rest-init c =
    let first = first_bits c.args.used c.load_word-front.result c.args.octets.now c.requires.used (omega (arith, c.requires.long)) c.requires.zeros c.load_word-front.ensures in
    record {
      whole = c.requires.whole;
      long = omega (arith, c.requires.long);
      zeros = first.zeros;
      bits = ap (λ bs. bs ++ low_bits_of c.args.width c.args.from.now) first.are;
    }

pub loop-rest-preserved : goal.loop-rest-preserved
loop-rest-preserved c =
    let place = c.loop-rest.place in
    let rest = c.loop-rest.rest.now in
    let room : place + 8 ≤ length c.loop-rest.octets = omega (arith, c.loop-rest.invariant.long) in
    let bytes = c.copy_from_slice.ensures.after ∙ c.to_be_bytes.ensures in
    let behind = between_to_end rest 8 (length rest) (omega arith) in
    let more = eight_more c.args.used c.args.width place (place + 8 - place) c.loop-rest.front c.load_word.result c.squeezed.result _ _ c.loop-rest.octets c.copy_from_slice.new.self rest _ _ behind c.requires.used c.requires.width (omega arith) room c.loop-rest-test.true
    (omega (arith, c.loop-rest.auto.front-fits)) c.loop-rest.invariant.zeros c.load_word.ensures c.squeezed.ensures.bits c.squeezed.ensures.below refl bytes refl c.loop-rest.invariant.bits in
    let long : length (drop 8 rest) ≡ length rest - 8 = length-drop 8 rest in
    record {
      whole = ap (λ os. length os % 8) behind ∙ omega (arith, long, c.loop-rest.invariant.whole);
      long = length_put place (place + 8 - place) _ c.loop-rest.octets c.copy_from_slice.new.self (omega arith) room bytes ∙ c.loop-rest.invariant.long
          ∙ omega (arith, eight_less c.args.width (length rest) (length (drop 8 rest)) (omega (arith, long))) ∙ ap (λ os. place + c.args.width + length os / 8 * c.args.width + 8) (sym behind);
      zeros = more.0;
      bits = more.1;
    }

pub returns : goal.returns
returns c = last_put c.args.used c.args.width c.loop-rest.place _ c.loop-rest.front c.loop-rest.octets c.copy_from_slice-2.new.self c.loop-rest.rest.now _ c.requires.used (omega arith) (omega (arith, c.loop-rest.invariant.long, none_left c.args.width (length c.loop-rest.rest.now) (omega (arith, c.loop-rest.invariant.whole)))) (omega (arith, c.loop-rest.invariant.whole)) c.loop-rest.invariant.zeros
    (c.copy_from_slice-2.ensures.after ∙ c.to_be_bytes-2.ensures) c.loop-rest.invariant.bits
