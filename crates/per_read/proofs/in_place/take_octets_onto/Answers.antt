use Rattle.std.proofs.Common.{◌≡◌, ◌∙◌, ◌+◌, ◌*◌, ◌<◌, ap, refl, arith, length, length-append, subst, ℕ}
use Rattle.per_core.specs.Counts.{octet_items}
use Rattle.per_core.specs.BitFieldFaults.{in_items, in_length, too_many}
use Rattle.per_read.proofs.Calls.{answers_items, passes_on_items}
use Rattle.per_read.proofs.OfFields.{as_lacking}
use Rattle.per_read.proofs.FragmentItems.{small_length, items_go_on, items_end, no_items_length, no_items_short}
use Rattle.per_read.proofs.in_place.take_octets_onto.Goals as goal

pub returns-in_err-length : goal.returns-in_err-length
returns-in_err-length c =
    let h = c.loop-length.invariant in
    let t = c.in_err-length.ensures in
    passes_on_items _ _ c.from_residual.ensures.1 (t.kept ∙ h.1) (h.0.refusal _ (in_length (rw h.1 at t.err.0)), no_items_length h.0 octet_items (rw h.1 at t.err.1))

pub overflow_cast-more : goal.overflow_cast-more
overflow_cast-more c = omega (arith, (small_length _ c.in_ok-length.ensures.ok).0, c.count-more.ensures)

pub returns-in-None : goal.returns-in-None
returns-in-None c =
    let h = c.loop-length.invariant in
    let t = c.in_ok-length.ensures in
    record {
      ok = tt;
      err = (h.0.refusal _ (too_many c.in_ok-length.length (rw h.1 at t.ok) (omega (arith, c.in-None.ensures, c.count-more.ensures)) refl), no_items_short h.0 octet_items c.in_ok-length.length _ (rw h.1 at t.ok) (λ few. absurd (omega (arith, few, c.in-None.ensures, c.count-more.ensures))));
      kept = t.kept ∙ h.1;
    }

pub returns-in_err-take_bare_octets_onto : goal.returns-in_err-take_bare_octets_onto
returns-in_err-take_bare_octets_onto c =
    let h = c.loop-length.invariant in
    let t = c.in_ok-length.ensures in
    let b = c.in_err-take_bare_octets_onto.ensures in
    let m = c.take_unconstrained_length.new.self.bits in
    passes_on_items _ _ c.from_residual-in_err-take_bare_octets_onto.ensures.1 (b.kept ∙ t.kept ∙ h.1)
    (h.0.refusal _ (in_items c.in_ok-length.length (rw h.1 at t.ok) (as_lacking (ap (λ (n : ℕ). 8 * n) c.count-more.ensures) b.err.0)), no_items_short h.0 octet_items c.in_ok-length.length _ (rw h.1 at t.ok) (λ few. subst (λ (n : ℕ). length m < 8 * n) c.count-more.ensures b.err.1))

pub returns-in-Last : goal.returns-in-Last
returns-in-Last c =
    let h = c.loop-length.invariant in
    let t = c.in_ok-length.ensures in
    let b = c.in_ok-take_bare_octets_onto.ensures in
    let e : c.in-Some.all ≡ c.loop-length.count + c.count-more.result = omega (arith, c.in-Some.ensures) in
    answers_items _ (b.kept ∙ t.kept ∙ h.1)
    (items_end h.0 octet_items c.in-Some.all (rw h.1 at t.ok) c.in-Last.is c.count-more.ensures e (omega (arith, c.in-Some.ensures)) b.ok)

pub loop-length-smaller : goal.loop-length-smaller
loop-length-smaller c =
    let r = c.in_ok-take_bare_octets_onto.ensures.ok in
    omega (arith, (small_length _ c.in_ok-length.ensures.ok).1, ap length r.took.joins, length-append r.took.front c.take_bare_octets_onto.new.reader.bits)

pub loop-length-preserved : goal.loop-length-preserved
loop-length-preserved c =
    let h = c.loop-length.invariant in
    let t = c.in_ok-length.ensures in
    let b = c.in_ok-take_bare_octets_onto.ensures in
    let e : c.in-Some.all ≡ c.loop-length.count + c.count-more.result = omega (arith, c.in-Some.ensures) in
    (rw e (items_go_on h.0 (rw h.1 at t.ok) c.in_default.is c.count-more.ensures b.ok), b.kept ∙ t.kept ∙ h.1)
