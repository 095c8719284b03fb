use Rattle.std.proofs.Common.{◌∙◌, sym, ap, subst, List, ℕ, Option, option_map}
use Rattle.std.specs.Option.{option_and_then}
use Rattle.rasn_dynamic_jer.specs.FromJson.{whole_told, TellsValue}
use Rattle.rasn_dynamic_jer.proofs.read_simple.read_integer.Goals as goal

pub returns-in-Some : goal.returns-in-Some
returns-in-Some c =
    let e = sym c.as_number.ensures ∙ ap (option_map (λ s. s.now)) c.in-Some.is in
    subst (λ (o : Option (List ℕ)). TellsValue (option_and_then whole_told o) c.whole_of.result) (sym e) c.whole_of.ensures
