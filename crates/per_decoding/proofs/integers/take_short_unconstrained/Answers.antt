use Rattle.std.proofs.Common.{◌∙◌, refl, sym, ap, FitsSigned}
use Rattle.std.specs.Int.{w128}
use Rattle.std.proofs.lemmas.Int.{to_z-of_z}
use Rattle.rasn_constraints.specs.Bounds.{holds}
use Rattle.per_read.proofs.Unbounded.{out_of_range_no_number}
use Rattle.per_decoding.proofs.ShortNumbers.{no_octets_no_short, no_whole_no_short}
use Rattle.per_decoding.proofs.integers.take_short_unconstrained.Goals as goal

pub returns-in_err-octets-clause-none : goal.returns-in_err-octets-clause-none
returns-in_err-octets-clause-none g c e = no_octets_no_short _ g.I.IntegerType.range (c.in_err-octets.ensures.none refl)

pub returns-clause-none : goal.returns-clause-none
returns-clause-none g c e =
    let few = c.in_ok-octets.ensures.took in
    let fits : FitsSigned w128 c.signed.result = record { sfits = c.signed.type_inv } in
    let same = to_z-of_z w128 c.signed.result fits ∙ c.signed.ensures few.octets few.are in
    let out = rw e at c.try_from_i128.ensures in
    no_whole_no_short _ g.I.IntegerType.range (out_of_range_no_number _ _ _ few.octets _ few.took (ap (λ z. holds g.I.IntegerType.range z) (sym same) ∙ out))
