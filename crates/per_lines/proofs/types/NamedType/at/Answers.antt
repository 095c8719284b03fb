use Rattle.std.proofs.Common.{◌≡◌, List, length, ltb, false, subst, sym}
use Rattle.std.proofs.lemmas.Bool.{ltb-false}
use Rattle.std.proofs.lemmas.Option.{slice_get_past}
use Rattle.per_lines.specs.Types.{types}
use Rattle.per_lines.specs.declared.types.NamedType.{NamedType}
use Rattle.per_lines.proofs.types.NamedType.at.Goals as goal

pub returns-in-None : goal.returns-in-None
returns-in-None c = sym (slice_get_past types c.args.place (ltb-false c.args.place (length types)
    (subst (λ (ts : List NamedType). ltb c.args.place (length ts) ≡ false) c.all.ensures (sym c.in-None.ensures.lookup.0))))
