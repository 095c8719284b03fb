use Rattle.std.proofs.Common.{refl, subst, sym, to_z-of_z, FitsSigned}
use Rattle.std.specs.Int.{w16}
use Rattle.json.specs.Json.{string}
use Rattle.rasn_types.specs.Values.{Value}
use Rattle.rasn_schema.specs.Schemas.{Schema}
use Rattle.rasn_jer.proofs.Writing.{leaf_as}
use Rattle.rasn_jer.specs.Shown.{Shows, shows_string}
use Rattle.rasn_jer.specs.Strings.{day_text}
use Rattle.rasn_jer.proofs.encoder.EncoderEncoder.encode_date.Goals as goal

pub returns : goal.returns
returns g c =
    let day = c.to_parts-year.result in
    let j = string (day_text day.0 day.1 day.2) in
    let fits : FitsSigned w16 day.0 = record { sfits = c.to_parts-year.type_inv.1.1.0.1 } in
    leaf_as c.day-text.result (λ t. t.items) c.args.self.now _ _ c.write.result c.write.new.self j c.write.ensures (simp to_z-of_z at c.day-text.ensures)
    (subst (λ (v : Value). Shows Schema.date v j) (sym c.to_parts-year.ensures.found) (shows_string refl))
