use Rattle.std.proofs.Common.{◌≡◌, ◌∙◌, ◌&&◌, ltb, lt-ltb, true, sym, ap₂, subst, arith}
use Rattle.per_core.specs.Basic.{PaddingIf}
use Rattle.per_core.specs.Counts.{is_aligned, counted_of}
use Rattle.per_core.specs.SizeFaults.{IsOfPaddingIf}
use Rattle.per_read.specs.Takes.{Takes, alone, itself, telling}
use Rattle.per_read.proofs.Reader.take_padding_between.Goals as goal

pub returns : goal.returns
returns c =
    let some : ltb 0 c.args.count ≡ true = lt-ltb 0 c.args.count (omega (arith, c.if-count-eq0.false)) in
    let aligned : is_aligned (counted_of c.args.item) c.args.lower c.args.upper ≡ true = sym c.is_aligned.ensures ∙ c.if-not-is_aligned.false in
    subst (λ b. Takes (telling (IsOfPaddingIf b)) (alone (PaddingIf b)) itself c.args.self.now c.take_padding.result c.take_padding.new.self) (sym (ap₂ (λ x y. x && y) some aligned)) c.take_padding.ensures
