use Rattle.std.proofs.Common.{ap, inr, Some, None, cond, Err}
use Rattle.std.specs.Str.{chars}
use Rattle.rasn_types.specs.Alphabets.{bmp}
use Rattle.rasn_types.specs.Values.{characters}
use Rattle.rasn_dynamic_jer.proofs.Foreign.{foreign_one}
use Rattle.rasn_dynamic_jer.proofs.read_simple.characters_of.Goals as goal

pub returns-in-Err-ForeignCharacter : goal.returns-in-Err-ForeignCharacter
returns-in-Err-ForeignCharacter c =
    let a = c.in-Err-ForeignCharacter in
    let f = a.ensures.foreign a.field-0-0 a.field-0-1 (ap Err a.field-0-is) in
    inr (ap (λ b. cond b (Some (characters (chars c.args.text.now))) None) (foreign_one bmp (chars c.args.text.now) a.field-0-1 a.field-0-0 f.0 f.1.0))
