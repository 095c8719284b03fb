use Rattle.std.proofs.Common.{◌∙◌, sym, ap, subst, List, ℕ, Option, option_map}
use Rattle.std.specs.Option.{option_and_then}
use Rattle.rasn_dynamic_jer.specs.Days.{date_told}
use Rattle.rasn_dynamic_jer.specs.FromJson.{TellsValue}
use Rattle.rasn_dynamic_jer.proofs.dates.read_date.Goals as goal

pub returns-in-Some : goal.returns-in-Some
returns-in-Some c =
    let e = sym c.as_str.ensures ∙ ap (option_map (λ s. s.now)) c.in-Some.is in
    subst (λ (o : Option (List ℕ)). TellsValue (option_and_then date_told o) c.date_of.result) (sym e) c.date_of.ensures
