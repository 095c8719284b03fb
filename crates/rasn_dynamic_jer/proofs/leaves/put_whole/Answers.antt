use Rattle.std.proofs.Common.{ap, sym, subst, ◌∙◌, to_z-of_z}
use Rattle.std.specs.Fmt.{signed_decimal}
use Rattle.json.specs.Print.{IsNumber}
use Rattle.rasn_jer.proofs.Digits.{signed_number}
use Rattle.rasn_types.proofs.Reading.{fits-is_i128}
use Rattle.rasn_dynamic_jer.proofs.leaves.put_whole.Goals as goal

pub put_token-requires : goal.put_token-requires
put_token-requires c = subst IsNumber (sym (c.format.ensures.text ∙ ap signed_decimal (to_z-of_z c.ranges.number))) (signed_number c.args.number c.ranges.number)

pub returns-clause-held : goal.returns-clause-held
returns-clause-held c = fits-is_i128 _ c.ranges.number
