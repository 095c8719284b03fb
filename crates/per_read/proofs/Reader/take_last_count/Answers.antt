use Rattle.std.proofs.Common.{◌∙◌, ap, sym, arith}
use Rattle.per_read.specs.ReaderState.{ReaderState}
use Rattle.per_read.proofs.FirstWords.{begins_as, long_last, short_last}
use Rattle.per_read.proofs.Reader.take_last_count.Goals as goal

pub returns-then-word-eq0-clause-took : goal.returns-then-word-eq0-clause-took
returns-then-word-eq0-clause-took c =
    let same = ap (λ (x : ReaderState). x.bits) c.self.view_is in
    short_last c.in-Ok.field-0.bits c.take.new.self.bits (begins_as same c.front-word.ensures c.front-word.type_inv) (sym same ∙ c.in-Ok.ensures.ok) c.in-Ok.ensures.count (omega (arith, c.if-word-eq0.true))

pub returns-clause-took : goal.returns-clause-took
returns-clause-took c =
    let same = ap (λ (x : ReaderState). x.bits) c.self.view_is in
    long_last c.in-Ok-take.field-0.bits c.take-2.new.self.bits (begins_as same c.front-word.ensures c.front-word.type_inv) (sym same ∙ c.in-Ok-take.ensures.ok) c.in-Ok-take.ensures.count c.if-word-ne2.false
