use Rattle.std.proofs.Common.{arith, sym, ap, ◌∙◌, ◌+◌, pos, w8}
use Rattle.std.proofs.lemmas.Int.{ints, to_z_pos}
use Rattle.rasn_strings.proofs.Digits.{digit_at, two-is}
use Rattle.rasn_strings.proofs.moment.two.Goals as goal

pub overflow_sub-result : goal.overflow_sub-result
overflow_sub-result c = (digit_at c.args.digits.now c.args.at c.requires.digits (omega arith)).0

pub overflow_mul-result : goal.overflow_mul-result
overflow_mul-result c = let h = digit_at c.args.digits.now c.args.at c.requires.digits (omega arith) in omega arith

pub overflow_sub-result-2 : goal.overflow_sub-result-2
overflow_sub-result-2 c = (digit_at c.args.digits.now (c.args.at + 1) c.requires.digits (omega arith)).0

pub overflow_add-result-2 : goal.overflow_add-result-2
overflow_add-result-2 c = let h = digit_at c.args.digits.now c.args.at c.requires.digits (omega arith) in let k = digit_at c.args.digits.now (c.args.at + 1) c.requires.digits (omega arith) in omega arith

pub overflow_cast-result : goal.overflow_cast-result
overflow_cast-result c = let h = digit_at c.args.digits.now c.args.at c.requires.digits (omega arith) in let k = digit_at c.args.digits.now (c.args.at + 1) c.requires.digits (omega arith) in omega (arith, ints)

pub returns : goal.returns
returns c = let h = digit_at c.args.digits.now c.args.at c.requires.digits (omega arith) in let k = digit_at c.args.digits.now (c.args.at + 1) c.requires.digits (omega arith) in
    to_z_pos w8 _ (omega arith) ∙ ap pos (sym (two-is c.args.digits.now c.args.at c.requires.within))
