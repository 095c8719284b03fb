use Rattle.std.proofs.Common.{◌≡◌, ◌∙◌, ap, sym, subst, Some, refl, true, false}
use Rattle.rasn_types.specs.Variants.{variant_of}
use Rattle.per_core.specs.Counts.{open_bits, unconstrained_octets}
use Rattle.per_core.specs.Writers.{Writer}
use Rattle.per_write.specs.Faults.{IsMemory}
use Rattle.per_write.specs.WriterState.{Puts}
use Rattle.per_write.proofs.BitmapsWritten.{empty_open, some_open}
use Rattle.per_write.proofs.Writer.put_open_type.Goals as goal

pub returns-then-is_empty : goal.returns-then-is_empty
returns-then-is_empty g c =
    let a = variant_of c.args.self.now.codec in
    subst (λ (w : Writer). Puts IsMemory w c.args.self.now c.put_octets.result c.put_octets.new.self) (empty_open a ∙ ap (λ bs. open_bits a (Some bs)) (sym (c.if-is_empty.ensures.0 refl))) c.put_octets.ensures

pub returns : goal.returns
returns g c =
    let a = variant_of c.args.self.now.codec in
    subst (λ (w : Writer). Puts IsMemory w c.args.self.now c.put_octets-2.result c.put_octets-2.new.self) (ap (unconstrained_octets a) c.as_octets.ensures.octets ∙ some_open a c.args.contents.now (λ h. let e : false ≡ true = c.if-is_empty.ensures.1 h in absurd cc)) c.put_octets-2.ensures
