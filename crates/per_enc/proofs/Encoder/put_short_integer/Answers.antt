use Rattle.std.proofs.Common.{◌≡◌, ◌∙◌, sym, refl, subst, false, Option, ℤ, FitsSigned, rules}
use Rattle.std.specs.Int.{w128}
use Rattle.std.proofs.lemmas.Int.{to_z-of_z}
use Rattle.rasn_types.specs.Values.{whole}
use Rattle.rasn_constraints.specs.Constraints.{bounds_in, is_marked}
use Rattle.rasn_constraints.specs.declared.constraints.Bounded.{Bounded}
use Rattle.rasn_constraints.specs.declared.constraints.Extensible.{Extensible}
use Rattle.rasn_schema.specs.Schemas.{Schema}
use Rattle.per_write.specs.WriterState.{Presents}
use Rattle.per_enc.proofs.Noting.{puts_noted}
use Rattle.per_enc.proofs.Presenting.{between_presented, unbounded_presented}
use Rattle.per_enc.proofs.Encoder.put_short_integer.Goals as goal

pub returns-in_default : goal.returns-in_default
returns-in_default g c =
    let z = g.I.IntegerType.number c.args.value.now in
    let x = c.self-in_default.inside in
    let begun : c.args.self.now.writer.failed ≡ false = search rules in
    let fits : FitsSigned w128 c.in_ok-number.number = search rules in
    puts_noted c.args.self.now record { writer = x.writer; set = x.set } _ _ _ c.put_short_whole.result (c.self-in_default.view_is ∙ c.note_value.ensures) begun
    (λ t. unbounded_presented x.writer _ c.args.constraints.now.value g.I.IntegerType.range z c.in_ok-number.number (sym c.value.ensures ∙ c.in_default.is) c.in_ok-number.ensures.number c.in_ok-number.ensures.held
    ((simp to_z-of_z at c.put_short_whole.ensures.put) t)) c.put_short_whole.ensures.fails c.put_short_whole.ensures.kept refl

pub returns : goal.returns
returns g c =
    let z = g.I.IntegerType.number c.args.value.now in
    let x = c.self-2.inside in
    let begun : c.args.self.now.writer.failed ≡ false = search rules in
    let low : FitsSigned w128 c.in_ok-lower.field-0.lower = search rules in
    let high : FitsSigned w128 c.in_ok-lower.field-0.upper = search rules in
    let fits : FitsSigned w128 c.in_ok-lower.field-0.number = search rules in
    puts_noted c.args.self.now record { writer = x.writer; set = x.set } _ _ _ c.put_between.result (c.self-2.view_is ∙ c.note_value-2.ensures) begun
    (λ t. subst (λ (o : Option (Extensible (Bounded ℤ))). Presents x.writer (Schema.number (bounds_in o) (is_marked o) g.I.IntegerType.range) (whole z) c.put_between.new.self)
    (sym c.in-Some.is ∙ c.value.ensures)
    (between_presented x.writer _ c.in-Some.stated g.I.IntegerType.range z c.in_ok-lower.field-0 c.in_ok-lower.ensures ((simp to_z-of_z at c.put_between.ensures.put) t))) c.put_between.ensures.fails c.put_between.ensures.kept refl
