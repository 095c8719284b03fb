use Rattle.std.proofs.Common.{ℕ, ◌%◌, sym, ap, ◌∙◌, take}
use Rattle.rasn_types.specs.Bits.{number_of}
use Rattle.per_bits.proofs.Spare.{zero_spare}
use Rattle.per_bits.proofs.ended.check_spare_bits.Goals as goal

pub returns-clause-ok : goal.returns-clause-ok
returns-clause-ok c =
    zero_spare _ _ (ap (λ (n : ℕ). number_of (take (n % 8) c.args.left.now.bits)) (sym c.len.ensures) ∙ sym c.first_bits.ensures ∙ c.if-first_bits-ne0.false)
