use Rattle.std.proofs.Common.{◌≡◌, ◌∙◌, ◌*◌, ◌^◌, ◌<◌, ◌≤◌, [], arith, ap, refl, sym, subst, ℕ}
use Rattle.std.proofs.lemmas.List.{append-nil}
use Rattle.rasn_types.specs.Bits.{to_bits}
use Rattle.rasn_types.proofs.Bits.{length-to_bits}
use Rattle.per_core.specs.Counts.{bits_of}
use Rattle.per_core.specs.Basic.{OneByOne}
use Rattle.per_core.specs.Spellings.{BitField}
use Rattle.per_read.specs.Items.{TookItems}
use Rattle.per_read.proofs.Fields.{field_below}
use Rattle.per_read.proofs.OneByOne.{field_between, first_begin, first_end, first_go_on, one_more_left}
use Rattle.per_read.proofs.items.Collector.push_each.Goals as goal

pub loop-init : goal.loop-init
loop-init g c =
    let e : c.width-width.result ≡ bits_of (g.Self.Collector.item c.args.self.now) = c.width-width.ensures ∙ ap bits_of c.item.ensures.item in
    record {
      short = c.requires.few;
      first = first_begin g.Self.Collector.holds c.width-width.result (to_bits c.args.length c.args.word) c.args.self.now c.args.many
          (length-to_bits c.args.length c.args.word ∙ subst (λ (w : ℕ). c.args.length ≡ w * c.args.many) (sym e) c.requires.bits);
      same = refl;
      few = omega arith;
    }

pub overflow_sub-left : goal.overflow_sub-left
overflow_sub-left g c = omega (arith, one_more_left c.loop.invariant.first c.loop-test.true, length-to_bits c.loop.left c.args.word)

pub push-requires-clause-few : goal.push-requires-clause-few
push-requires-clause-few g c =
    let l : c.width-width.result ≤ c.loop.left = omega (arith, one_more_left c.loop.invariant.first c.loop-test.true, length-to_bits c.loop.left c.args.word) in
    let e : c.width-width.result ≡ bits_of (g.Self.Collector.item c.loop.self) = c.width-width.ensures ∙ ap bits_of (c.item.ensures.item ∙ sym c.loop.invariant.same) in
    subst (λ (w : ℕ). c.number_between.result < 2 ^ w) e (field_below (field_between c.width-width.result c.loop.left c.args.word c.number_between.result l c.number_between.ensures))

pub push-requires-clause-room : goal.push-requires-clause-room
push-requires-clause-room g c = omega (arith, c.loop.invariant.few, c.loop-test.true, c.requires.room)

pub loop-preserved : goal.loop-preserved
loop-preserved g c =
    let l : c.width-width.result ≤ c.loop.left = omega (arith, one_more_left c.loop.invariant.first c.loop-test.true, length-to_bits c.loop.left c.args.word) in
    let f = field_between c.width-width.result c.loop.left c.args.word c.number_between.result l c.number_between.ensures in
    record {
      short = omega (arith, c.loop.invariant.short);
      first = first_go_on _ c.loop.invariant.first c.loop-test.true f c.in_ok-push.ensures.ok;
      same = c.in_ok-push.ensures.item ∙ c.loop.invariant.same;
      few = omega (arith, c.in_ok-push.ensures.count, c.loop.invariant.few);
    }

pub returns-clause-ok : goal.returns-clause-ok
returns-clause-ok g c =
    let e : c.width-width.result ≡ bits_of (g.Self.Collector.item c.args.self.now) = c.width-width.ensures ∙ ap bits_of c.item.ensures.item in
    subst (λ (w : ℕ). TookItems g.Self.Collector.holds (OneByOne (BitField w)) c.args.many c.args.self.now c.loop.self (to_bits c.args.length c.args.word) []) e
    (first_end c.loop.invariant.first c.loop-test.false (sym (append-nil (to_bits c.args.length c.args.word))))

pub returns-clause-count : goal.returns-clause-count
returns-clause-count g c = omega (arith, c.loop.invariant.few, c.loop.auto.counter-end)
