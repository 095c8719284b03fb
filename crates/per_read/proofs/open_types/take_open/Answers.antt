use Rattle.std.proofs.Common.{◌∙◌, ◌*◌, inr, refl, ap, subst, arith}
use Rattle.rasn_types.specs.Bits.{pack}
use Rattle.per_core.specs.Spellings.{Took}
use Rattle.per_core.specs.BitFieldFaults.{in_items, in_length}
use Rattle.per_core.specs.declared.lengths.Length.TheVariants.{Last}
use Rattle.per_core.specs.Lengths.{LengthOf, count_of}
use Rattle.per_read.specs.ReaderState.{settings_of}
use Rattle.per_read.proofs.Calls.{answers, passes_on}
use Rattle.per_read.proofs.FragmentItems.{small_length}
use Rattle.per_read.proofs.Pieces.{no_length_no_octets, no_front_no_octets, octets_are, octets_in_place}
use Rattle.per_read.specs.TakenPositions.{LastTaken}
use Rattle.per_read.proofs.FrontItems.{last_front}
use Rattle.per_read.proofs.open_types.take_open.Goals as goal

pub returns-in_err-count : goal.returns-in_err-count
returns-in_err-count c =
    let h = rw c.ahead_of-ahead.ensures at c.in_err-count.ensures in
    passes_on _ _ c.from_residual.ensures.1 refl (inr (in_length h.err.0, no_length_no_octets _ h.err.1))

pub overflow_mul-count : goal.overflow_mul-count
overflow_mul-count c = omega (arith, (small_length _ c.in_ok-count.ensures.ok).0, ap count_of c.in-Last.is)

pub returns-in_err-take_front-in-Last : goal.returns-in_err-take_front-in-Last
returns-in_err-take_front-in-Last c =
    let x = c.args.reader.now in
    let f = rw c.ahead_of-ahead.ensures at c.in_ok-count.ensures in
    let l = subst (λ z. Took (LengthOf (settings_of x) z) x.bits c.take_unconstrained_length.new.self.bits) c.in-Last.is f.ok in
    let h = c.in_err-take_front-in-Last.ensures in
    passes_on _ _ c.from_residual-in_err-take_front-in-Last.ensures.1 refl (inr (in_items (Last c.in-Last.count) l h.err.0, no_front_no_octets _ _ l h.err.1))

pub returns-in_ok-take_front-in-Last : goal.returns-in_ok-take_front-in-Last
returns-in_ok-take_front-in-Last c =
    let x = c.args.reader.now in
    let f = rw c.ahead_of-ahead.ensures at c.in_ok-count.ensures in
    let l = subst (λ z. Took (LengthOf (settings_of x) z) x.bits c.take_unconstrained_length.new.self.bits) c.in-Last.is f.ok in
    let h = c.in_ok-take_front-in-Last.ensures in
    let y = c.take_front.new.self.bits in
    let e = octets_are c.in-Last.count _ h.ok in
    answers _ (h.kept ∙ f.kept) (record {
      octets = pack c.in-Last.count _;
      are = subst (λ z. LastTaken (8 * c.in-Last.count) z x.bits y) e (last_front l h.ok);
      held = octets_in_place _ c.in-Last.count _ l h.ok;
    })
