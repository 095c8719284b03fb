use Rattle.std.proofs.Common.{arith, rules}
use Rattle.rasn_record.proofs.alternatives.write_after.Goals as goal

pub returns : goal.returns
returns g c =
    let w = rw (c.given-in_use.ensures, c.CONSTRAINTS.ensures) at c.encode_with_tag_and_constraints.ensures.law in
    record {
      law = rw c.requires.value (record { at = λ n le. (_, c.requires.schema n, w.at n (omega (arith, c.requires.levels, le))) });
      behaves = search rules;
    }
