use Rattle.std.proofs.Common.{ap, ◌∙◌, refl}
use Rattle.std.proofs.lemmas.Result.{err_from_is_err_and}
use Rattle.rasn_traits.specs.Counted.{stands_in}
use Rattle.rasn_dynamic_codec.proofs.Choosing.{stands_some}
use Rattle.rasn_dynamic_codec.proofs.write.open_chosen.Goals as goal

pub returns-in_default : goal.returns-in_default
returns-in_default g c = (c.in_default.ensures, refl)

pub open_alternative_of-requires : goal.open_alternative_of-requires
open_alternative_of-requires g c = ap (λ n. stands_in n c.args.place) c.counts-counts.ensures ∙ stands_some c.args.choice.now c.args.place c.in-Some.alternative.now c.in-Some.ensures

pub returns-in_err-outside : goal.returns-in_err-outside
returns-in_err-outside g c =
    let p = err_from_is_err_and c.from_residual.result c.from_residual.ensures.1 in
    rw (p.1, p.2) (c.in-Some.alternative.now, c.in-Some.ensures, rw c.counts-counts.ensures at c.in_err-outside.ensures)

pub returns : goal.returns
returns g c = (c.in-Some.alternative.now, c.in-Some.ensures, refl, rw c.counts-counts.ensures at c.in_ok-outside.ensures)
