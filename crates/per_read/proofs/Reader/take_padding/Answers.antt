use Rattle.std.proofs.Common.{refl, sym}
use Rattle.per_read.proofs.Calls.{answers, refuses}
use Rattle.per_read.proofs.Padding.{nonzero, padded_any, padded_zero, unpadded}
use Rattle.per_read.proofs.Reader.take_padding.Goals as goal
use Rattle.per_read.proofs.Reader.take_padding.Goals.{else-self-via-then-self+else-first_bits-ne0, else-self-via-else-self}

pub returns-then-first_bits-ne0 : goal.returns-then-first_bits-ne0
returns-then-first_bits-ne0 c =
    let joins = rw c.unwrap-padding.ensures at c.take.ensures.ok in
    let odd = rw c.unwrap-padding.ensures at c.take.ensures.count in
    rw (sym c.self.view_is) (refuses _ refl (
      (refl, nonzero c.self.inside.options _ _ _ _ c.in_default.not-Uper joins odd c.len-odd.ensures _ c.first_bits.ensures c.if-self.true c.if-first_bits-ne0.true),
      unpadded c.self.inside.options _ _ _ _ c.in_default.not-Uper joins odd c.len-odd.ensures _ c.first_bits.ensures c.if-self.true c.if-first_bits-ne0.true,
    ))

pub returns : goal.returns
returns c =
    let joins = rw c.unwrap-padding.ensures at c.take.ensures.ok in
    let odd = rw c.unwrap-padding.ensures at c.take.ensures.count in
    rw (sym c.self.view_is) (answers _ refl (elim c.else-self.branch [
      | else-self-via-then-self+else-first_bits-ne0 w ↦ padded_zero c.self.inside.options _ _ _ _ c.in_default.not-Uper joins odd c.len-odd.ensures _ w.first_bits.ensures w.if-first_bits-ne0.false
      | else-self-via-else-self w ↦ padded_any c.self.inside.options _ _ _ _ c.in_default.not-Uper joins odd c.len-odd.ensures w.if-self.false
    ]))
