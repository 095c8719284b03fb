use Rattle.std.proofs.Common.{◌+◌, ◌-◌, arith, sym}
use Rattle.per_read.specs.ReaderState.{settings_of}
use Rattle.per_read.proofs.Calls.{answers, passes_on}
use Rattle.per_read.proofs.SizeForms.{few_codes, few_counted, recoded, count_from, no_code_from}
use Rattle.per_read.proofs.OfFields.{as_many}
use Rattle.per_read.proofs.Reader.take_constrained_count.Goals as goal

pub returns-in_err-code : goal.returns-in_err-code
returns-in_err-code c =
    let a = settings_of c.args.self.now in
    let h = c.in_err-code.ensures in
    passes_on _ _ c.from_residual.ensures.1 h.kept (as_many a c.args.self.now.bits _ c.saturating_sub.ensures h.err.0, no_code_from a c.args.lower c.args.upper (λ o t b. h.err.1 o t (recoded a o (sym c.saturating_sub.ensures) b)))

pub overflow_cast-result : goal.overflow_cast-result
overflow_cast-result c =
    let a = settings_of c.args.self.now in
    omega (arith, few_codes a c.in_ok-code.code (c.args.upper - c.args.lower + 1) (let h = c.requires in omega arith) (recoded a c.in_ok-code.code c.saturating_sub.ensures c.in_ok-code.ensures.ok))

pub overflow_add-result : goal.overflow_add-result
overflow_add-result c =
    let a = settings_of c.args.self.now in
    omega (arith, few_counted a c.args.lower c.args.upper c.in_ok-code.code c.requires c.ranges.lower.fits (recoded a c.in_ok-code.code c.saturating_sub.ensures c.in_ok-code.ensures.ok))

pub returns : goal.returns
returns c =
    let a = settings_of c.args.self.now in
    let h = c.in_ok-code.ensures in
    answers _ h.kept (count_from a c.args.lower c.args.upper c.in_ok-code.code (recoded a c.in_ok-code.code c.saturating_sub.ensures h.ok))
