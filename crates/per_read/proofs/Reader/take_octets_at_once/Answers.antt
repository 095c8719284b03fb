use Rattle.std.proofs.Common.{◌∙◌, ap, sym, refl, arith, length}
use Rattle.per_read.specs.ReaderState.{ReaderState}
use Rattle.per_read.proofs.FirstWords.{begins_as}
use Rattle.per_read.proofs.ReadAsField.{once_counted, once_wide, taken_at_once}
use Rattle.per_read.proofs.Reader.take_octets_at_once.Goals as goal

pub returns-clause-took : goal.returns-clause-took
returns-clause-took c =
    let same = ap (λ (x : ReaderState). x.bits) c.self.view_is in
    taken_at_once c.front-word.result c.from-3.result c.from-2.result c.in-Ok.field-0.bits (begins_as same c.front-word.ensures c.front-word.type_inv) c.from-3.ensures (omega (arith, c.if-above-ge6.false, c.front-word.type_inv)) (omega (arith, c.if-above-ge6.false, c.front-word.type_inv))
    (sym same ∙ c.in-Ok.ensures.ok) (c.in-Ok.ensures.count ∙ c.from.ensures) (c.if-not-is_unpadded.ensures.0 refl) c.from-2.ensures

pub returns-then-above-ge6-clause-none : goal.returns-then-above-ge6-clause-none
returns-then-above-ge6-clause-none c none os t b =
    let same = ap (λ (x : ReaderState). x.bits) c.self.view_is in
    let counted = once_counted b (begins_as same c.front-word.ensures c.front-word.type_inv) in
    omega (arith, counted, b.spelled.some, b.spelled.few, c.if-above-ge6.true)

pub returns-in_default-clause-none : goal.returns-in_default-clause-none
returns-in_default-clause-none c none os t b =
    let same = ap (λ (x : ReaderState). x.bits) c.self.view_is in
    let counted = once_counted b (begins_as same c.front-word.ensures c.front-word.type_inv) in
    omega (arith, counted, once_wide b, ap length same, c.from.ensures, c.in_default.ensures.short)
