use Rattle.lawful_types.proofs.OkAnswers.{then}
use Rattle.lawful_types.proofs.ContainingTypes.{containing_newer, kind_newer}
use Rattle.lawful_types.proofs.kinds.compare_kinds.Goals as goal

pub returns-in-Containing-older-clause-newer : goal.returns-in-Containing-older-clause-newer
returns-in-Containing-older-clause-newer c =
    let i = c.in-Containing.newer in let j = c.in-Containing-older.older in
    then c.compare_within.result c.compare_within.ensures.newer
    (λ h. rw (c.in-Containing.is, c.in-Containing-older.is) (containing_newer c.args.newer_kinds.now c.args.older_kinds.now c.compare_within.new.pairs.items i j h))

pub returns-in_default-older-2 : goal.returns-in_default-older-2
returns-in_default-older-2 c =
    let k' = c.args.newer.now in let k = c.args.older.now in
    record {
      front = c.compare_plain.ensures.front;
      newer = then c.compare_plain.result c.compare_plain.ensures.newer
          (λ h. kind_newer c.args.newer_kinds.now c.args.older_kinds.now c.compare_plain.new.pairs.items k' k c.in_default.not-Containing c.in_default-older-2.not-Containing h);
    }
