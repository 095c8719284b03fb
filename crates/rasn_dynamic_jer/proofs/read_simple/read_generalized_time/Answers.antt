use Rattle.std.proofs.Common.{◌∙◌, sym, ap, subst, List, ℕ, Option, option_map}
use Rattle.std.specs.Option.{option_and_then}
use Rattle.rasn_types.specs.Contents.{generalized}
use Rattle.rasn_dynamic_jer.specs.FromJson.{time_told, TellsValue}
use Rattle.rasn_dynamic_jer.proofs.read_simple.read_generalized_time.Goals as goal

pub returns-in-Some : goal.returns-in-Some
returns-in-Some c =
    let e = sym c.as_str.ensures ∙ ap (option_map (λ s. s.now)) c.in-Some.is in
    subst (λ (o : Option (List ℕ)). TellsValue (option_and_then (time_told generalized) o) c.generalized_time_of.result) (sym e) c.generalized_time_of.ensures
