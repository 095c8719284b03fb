use Rattle.std.proofs.Common.{◌≡◌, ◌∙◌, sym, ◌⊎◌, inl, inr, IfOk}
use Rattle.hex.specs.declared.error.FromHexError.TheVariants.{OutOfMemory}
use Rattle.message_lines.proofs.Words.{fault-as, octets-as, one-word}
use Rattle.message_lines.proofs.digits.octets_in.Goals as goal

pub returns-else-has_between-clause-ok : goal.returns-else-has_between-clause-ok
returns-else-has_between-clause-ok c =
    octets-as c.octets_of.result (one-word c.args.text.now (sym c.has_between.ensures ∙ c.if-has_between.false)) c.octets_of.ensures.ok

pub returns-else-has_between-clause-err : goal.returns-else-has_between-clause-err
returns-else-has_between-clause-err c =
    fault-as (λ e. e ≡ OutOfMemory) c.octets_of.result (one-word c.args.text.now (sym c.has_between.ensures ∙ c.if-has_between.false)) c.octets_of.ensures.err
