use Rattle.std.proofs.Common.{ap, sym, subst, ◌∙◌, to_z-of_z}
use Rattle.std.specs.Fmt.{signed_decimal}
use Rattle.json.specs.Print.{IsNumber}
use Rattle.rasn_jer.proofs.Writing.{over_ok}
use Rattle.rasn_jer.proofs.Digits.{signed_number}
use Rattle.rasn_jer.proofs.texts.decimal.Goals as goal

pub returns-clause-number : goal.returns-clause-number
returns-clause-number g c = over_ok c.from_slice.result c.from_slice.ensures.items
    (λ t e. subst IsNumber (sym (e ∙ c.as_bytes.ensures.value ∙ c.format.ensures.text ∙ ap signed_decimal (to_z-of_z c.ranges.number))) (signed_number c.args.number c.ranges.number))
