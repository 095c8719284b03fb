use Rattle.std.proofs.Common.{◌∙◌, ap, ◌-◌, ◌/◌, ◌^◌, bit_and, ℕ, arith}
use Rattle.std.proofs.lemmas.Nat.{one_shl, and_mask}
use Rattle.per_read.proofs.items.number_between.Goals as goal

pub returns : goal.returns
returns c =
    let word = c.args.word / 2 ^ c.args.behind in
    ap (λ (m : ℕ). bit_and word (m - 1)) (one_shl c.args.width 64 (omega arith)) ∙ and_mask word c.args.width
