use Rattle.std.proofs.Common.{arith, string_bytes, ◌≡◌, ◌++◌, ◌∷◌, []}
use Rattle.std.proofs.lemmas.Grind.{common_steps}
use Rattle.hex.specs.Hex.{encode_lower}
use Rattle.per_lines.proofs.AnswerLaws.{is_answer}
use Rattle.per_lines.proofs.answer.answer.Goals as goal

pub returns-clause-ok : goal.returns-clause-ok
returns-clause-ok c =
    let text : string_bytes c.push.new.self ≡ encode_lower c.in_ok-canonical.canonical.items ++ 10 ∷ [] = grind (arith, common_steps) in
    is_answer c.args.arguments c.args.line.items (string_bytes c.push.new.self) (record {
      octets = c.in_ok-octets.octets.items;
      canonical = c.in_ok-canonical.canonical.items;
      hexadecimal = rw c.as_slice.ensures.value at c.in_ok-octets.ensures.ok;
      converted = rw c.as_slice-2.ensures.value at c.in_ok-canonical.ensures.ok;
      is_text = text;
    })
