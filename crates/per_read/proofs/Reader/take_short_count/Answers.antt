use Rattle.std.proofs.Common.{◌+◌, ◌-◌, arith, refl, sym}
use Rattle.per_core.proofs.TakenInTurn.{took_map}
use Rattle.per_read.specs.ReaderState.{settings_of}
use Rattle.per_read.proofs.SizeForms.{few_codes, few_counted, recoded, count_from, no_code_from}
use Rattle.per_read.proofs.Calls.{answers}
use Rattle.per_read.proofs.Reader.take_short_count.Goals as goal

pub overflow_cast-result : goal.overflow_cast-result
overflow_cast-result c =
    let a = settings_of c.args.self.now in
    omega (arith, few_codes a c.in_ok-code.code (c.args.upper - c.args.lower + 1) (let h = c.requires in omega arith) (recoded a c.in_ok-code.code c.saturating_sub.ensures c.in_ok-code.ensures.took.ok))

pub overflow_add-result : goal.overflow_add-result
overflow_add-result c =
    let a = settings_of c.args.self.now in
    omega (arith, few_counted a c.args.lower c.args.upper c.in_ok-code.code c.requires c.ranges.lower.fits (recoded a c.in_ok-code.code c.saturating_sub.ensures c.in_ok-code.ensures.took.ok))

pub returns-clause-took : goal.returns-clause-took
returns-clause-took c =
    let a = settings_of c.args.self.now in
    let h = c.in_ok-code.ensures.took in
    answers _ h.kept (count_from a c.args.lower c.args.upper c.in_ok-code.code (recoded a c.in_ok-code.code c.saturating_sub.ensures h.ok))

pub returns-in_err-code-clause-none : goal.returns-in_err-code-clause-none
returns-in_err-code-clause-none c none o t b =
    let a = settings_of c.args.self.now in
    no_code_from a c.args.lower c.args.upper (λ n u d.
    c.in_err-code.ensures.none refl n u (took_map (λ p x i. ((λ v. let h = c.requires in omega (arith, c.saturating_sub.ensures)), i)) (recoded a n (sym c.saturating_sub.ensures) d))) o t b
