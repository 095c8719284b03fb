use Rattle.std.proofs.Common.{◌≡◌, ◌∙◌, ◌*◌, [], length, arith, ap, refl, sym, subst, ℕ}
use Rattle.std.proofs.Math.Nat.{mul-le-mul_left}
use Rattle.std.proofs.lemmas.List.{append-nil}
use Rattle.rasn_types.specs.Bits.{to_bits}
use Rattle.rasn_types.proofs.Bits.{length-to_bits}
use Rattle.per_core.specs.Counts.{bits_of}
use Rattle.per_core.specs.Basic.{OneByOne}
use Rattle.per_core.specs.Spellings.{BitField}
use Rattle.per_read.specs.Items.{TookItems}
use Rattle.per_read.proofs.OneByOne.{first_begin, first_end, first_go_far, word_left}
use Rattle.per_read.proofs.items.Collector.push_words.Goals as goal

pub loop-done-init : goal.loop-done-init
loop-done-init g c =
    let e : c.width-width.result ≡ bits_of (g.Self.Collector.item c.args.self.now) = c.width-width.ensures ∙ ap bits_of c.item.ensures.item in
    record {
      first = first_begin g.Self.Collector.holds c.width-width.result c.args.bits.bits c.args.self.now c.args.many (subst (λ (w : ℕ). length c.args.bits.bits ≡ w * c.args.many) (sym e) c.requires.bits);
      same = refl;
      few = omega arith;
    }

pub take_field-word-requires-clause-few : goal.take_field-word-requires-clause-few
take_field-word-requires-clause-few g c = omega (arith, c.items_in_word-most.ensures.few, mul-le-mul_left {m = c.min-count.result} {n = c.items_in_word-most.result} c.width-width.result (omega arith))

pub take_field-word-requires-clause-left : goal.take_field-word-requires-clause-left
take_field-word-requires-clause-left g c = omega (arith, word_left c.min-count.result c.loop-done.invariant.first (omega arith))

-- the items stay what they are
pub push_each-requires-clause-bits : goal.push_each-requires-clause-bits
push_each-requires-clause-bits g c =
    let e : c.width-width.result ≡ bits_of (g.Self.Collector.item c.loop-done.self) = c.width-width.ensures ∙ ap bits_of (c.item.ensures.item ∙ sym c.loop-done.invariant.same) in
    ap (λ (w : ℕ). w * c.min-count.result) e

pub push_each-requires-clause-few : goal.push_each-requires-clause-few
push_each-requires-clause-few g c = omega (arith, c.items_in_word-most.ensures.few, mul-le-mul_left {m = c.min-count.result} {n = c.items_in_word-most.result} c.width-width.result (omega arith))

pub push_each-requires-clause-room : goal.push_each-requires-clause-room
push_each-requires-clause-room g c = omega (arith, c.loop-done.invariant.few, c.requires.room)

pub loop-done-preserved : goal.loop-done-preserved
loop-done-preserved g c =
    let e : bits_of (g.Self.Collector.item c.loop-done.self) ≡ c.width-width.result = ap bits_of (c.loop-done.invariant.same ∙ sym c.item.ensures.item) ∙ sym c.width-width.ensures in
    let length = c.width-width.result * c.min-count.result in
    let bits = to_bits length c.take_field-word.result in
    let more = subst (λ (w : ℕ). TookItems g.Self.Collector.holds (OneByOne (BitField w)) c.min-count.result c.loop-done.self c.push_each.new.self bits []) e c.in_ok-push_each.ensures.ok in
    record {
      first = first_go_far c.loop-done.invariant.first (omega arith) c.take_field-word.ensures.bits (length-to_bits length c.take_field-word.result) more;
      same = c.in_ok-push_each.ensures.item ∙ c.loop-done.invariant.same;
      few = omega (arith, c.in_ok-push_each.ensures.count, c.loop-done.invariant.few);
    }

pub returns-clause-ok : goal.returns-clause-ok
returns-clause-ok g c =
    let e : c.width-width.result ≡ bits_of (g.Self.Collector.item c.args.self.now) = c.width-width.ensures ∙ ap bits_of c.item.ensures.item in
    subst (λ (w : ℕ). TookItems g.Self.Collector.holds (OneByOne (BitField w)) c.args.many c.args.self.now c.loop-done.self c.args.bits.bits []) e
    (first_end c.loop-done.invariant.first (omega arith) (sym (append-nil c.args.bits.bits)))

pub returns-clause-count : goal.returns-clause-count
returns-clause-count g c = omega (arith, c.loop-done.invariant.few, c.loop-done.invariant.first.within)
