use Rattle.std.proofs.Common.{rules, List, ℕ, Some, None, arith, true, false}
use Rattle.per_table.proofs.Requests.{is_request, one_blank}
use Rattle.per_table.proofs.request.Request.read.Goals as goal

pub returns-in_err-name-clause-none : goal.returns-in_err-name-clause-none
returns-in_err-name-clause-none c = rw c.from_residual-in_err-name.ensures
    (one_blank c.args.line.now (c.in_ok-variant.variant, c.in_ok-variant.rest) (search rules) (search rules))

pub returns-clause-some : goal.returns-clause-some
returns-clause-some c =
    is_request c.args.line.now (c.in_ok-variant.variant, c.in_ok-variant.rest) (c.in_ok-name.name, c.in_ok-name.text) c.in_ok-codec.codec
    (search rules) (search rules) (search rules) (search rules)
