use Rattle.rasn_schema.specs.Orders.{ordered}
use Rattle.rasn_schema.specs.Schemas.{tags}
use Rattle.per_core.specs.Basic.{rules}
use Rattle.per_read.proofs.Records.{extended_took, plain_took, took_extended, took_plain}
use Rattle.per_read.proofs.addition_laws.extension_bit_shows_a_bitmap.Goals as goal

pub returns-clause-none : goal.returns-clause-none
returns-clause-none c = λ a o ps adds ss xs s t.
    let rs = ordered o (tags ps) (rules a ps) in
    (took_plain a rs (rules a adds) ss xs, λ x. plain_took a rs (rules a adds) ss xs x.root x.additions)

pub returns-clause-some : goal.returns-clause-some
returns-clause-some c = λ a o ps adds ss xs s t.
    let rs = ordered o (tags ps) (rules a ps) in
    (took_extended a rs (rules a adds) ss xs, λ x. extended_took a rs (rules a adds) ss xs x.flags x.root x.bitmap x.additions)
