use Rattle.std.proofs.Common.{◌≡◌, ◌∙◌, ◌+◌, ◌*◌, ◌<◌, inr, refl, ap, arith, length, length-append, subst, ℕ}
use Rattle.per_core.specs.Basic.{OneByOne}
use Rattle.per_core.specs.Counts.{bits_of, counted_of}
use Rattle.per_core.specs.Spellings.{BitField}
use Rattle.per_core.specs.BitFieldFaults.{in_items, in_length, too_many}
use Rattle.per_read.specs.Items.{TookItems}
use Rattle.per_read.proofs.Calls.{answers_items, passes_on_items}
use Rattle.per_read.proofs.OfFields.{as_lacking}
use Rattle.per_read.proofs.FragmentItems.{small_length, items_go_on, items_end, no_items_length, no_items_short}
use Rattle.per_read.proofs.Refusals.{faulty_map}
use Rattle.per_read.proofs.Reader.take_unconstrained_items.Goals as goal

pub returns-in_err-length : goal.returns-in_err-length
returns-in_err-length g c =
    let h = c.loop-length.invariant in
    let t = c.in_err-length.ensures in
    passes_on_items _ _ c.from_residual.ensures.1 (t.kept ∙ h.1) (inr (h.0.refusal _ (in_length (rw h.1 at t.err.0)), no_items_length h.0 (counted_of (g.C.Collector.item c.args.items.now)) (rw h.1 at t.err.1)))

pub overflow_cast-more : goal.overflow_cast-more
overflow_cast-more g c = omega (arith, (small_length _ c.in_ok-length.ensures.ok).0, c.count-more.ensures)

pub returns-in-None : goal.returns-in-None
returns-in-None g c =
    let h = c.loop-length.invariant in
    let t = c.in_ok-length.ensures in
    record {
      ok = tt;
      err = inr (h.0.refusal _ (too_many c.in_ok-length.length (rw h.1 at t.ok) (omega (arith, c.in-None.ensures, c.count-more.ensures)) refl), no_items_short h.0 (counted_of (g.C.Collector.item c.args.items.now)) c.in_ok-length.length _ (rw h.1 at t.ok) (λ few. absurd (omega (arith, few, c.in-None.ensures, c.count-more.ensures))));
      kept = t.kept ∙ h.1;
    }

pub returns-in_err-take_bare_items : goal.returns-in_err-take_bare_items
returns-in_err-take_bare_items g c =
    let h = c.loop-length.invariant in
    let t = c.in_ok-length.ensures in
    let b = c.in_err-take_bare_items.ensures in
    let m = c.take_unconstrained_length.new.self.bits in
    passes_on_items _ _ c.from_residual-in_err-take_bare_items.ensures.1 (b.kept ∙ t.kept ∙ h.1)
    (faulty_map _
    (λ f. h.0.refusal _ (in_items c.in_ok-length.length (rw h.1 at t.ok)
    (as_lacking (ap (λ z. bits_of z * c.count-more.result) h.2 ∙ ap (λ (n : ℕ). bits_of (g.C.Collector.item c.args.items.now) * n) c.count-more.ensures) f)))
    (λ short. no_items_short h.0 (counted_of (g.C.Collector.item c.args.items.now)) c.in_ok-length.length _ (rw h.1 at t.ok)
    (λ few. subst (λ (n : ℕ). length m < bits_of (g.C.Collector.item c.args.items.now) * n) c.count-more.ensures (subst (λ z. length m < bits_of z * c.count-more.result) h.2 short))) b.err)

pub returns-in-Last : goal.returns-in-Last
returns-in-Last g c =
    let h = c.loop-length.invariant in
    let t = c.in_ok-length.ensures in
    let b = c.in_ok-take_bare_items.ensures in
    let i = g.C.Collector.item c.args.items.now in
    let e : c.in-Some.all ≡ c.loop-length.count + c.count-more.result = omega (arith, c.in-Some.ensures) in
    answers_items _ (b.kept ∙ t.kept ∙ h.1)
    (items_end h.0 (counted_of i) c.in-Some.all (rw h.1 at t.ok) c.in-Last.is c.count-more.ensures e (omega (arith, c.in-Some.ensures))
    (subst (λ z. TookItems g.C.Collector.holds (OneByOne (BitField (bits_of z))) c.count-more.result c.loop-length.items c.take_bare_items.new.items c.take_unconstrained_length.new.self.bits c.take_bare_items.new.self.bits) h.2 b.ok))

pub loop-length-smaller : goal.loop-length-smaller
loop-length-smaller g c =
    let r = c.in_ok-take_bare_items.ensures.ok in
    omega (arith, (small_length _ c.in_ok-length.ensures.ok).1, ap length r.took.joins, length-append r.took.front c.take_bare_items.new.self.bits)

pub loop-length-preserved : goal.loop-length-preserved
loop-length-preserved g c =
    let h = c.loop-length.invariant in
    let t = c.in_ok-length.ensures in
    let b = c.in_ok-take_bare_items.ensures in
    let e : c.in-Some.all ≡ c.loop-length.count + c.count-more.result = omega (arith, c.in-Some.ensures) in (
      rw e (items_go_on h.0 (rw h.1 at t.ok) c.in_default.is c.count-more.ensures
          (subst (λ z. TookItems g.C.Collector.holds (OneByOne (BitField (bits_of z))) c.count-more.result c.loop-length.items c.take_bare_items.new.items c.take_unconstrained_length.new.self.bits c.take_bare_items.new.self.bits) h.2 b.ok)),
      b.kept ∙ t.kept ∙ h.1,
      b.same ∙ h.2,
      omega (arith, b.few, h.3, e),
    )
