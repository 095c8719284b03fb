use Rattle.std.proofs.Common.{◌∙◌, sym, ap, subst, List, ℕ, Option, option_map}
use Rattle.json.specs.Value.{value_view}
use Rattle.rasn_dynamic_jer.specs.Leaves.{fixed_by}
use Rattle.rasn_dynamic_jer.specs.FromJson.{bits_told, fixed_told, TellsValue}
use Rattle.rasn_dynamic_jer.proofs.read_simple.read_bits.Goals as goal

pub returns-in-Some : goal.returns-in-Some
returns-in-Some c =
    let e = sym c.as_str.ensures ∙ ap (option_map (λ s. s.now)) c.in-Some.is in
    let told = subst (λ (n : Option ℕ). TellsValue (fixed_told n c.in-Some.digits.now) c.read_fixed.result) c.fixed_by.ensures c.read_fixed.ensures in
    subst (λ (o : Option (List ℕ)). TellsValue (bits_told (fixed_by c.args.size.now) o (value_view c.args.json.now)) c.read_fixed.result) (sym e) told

pub returns-in-None : goal.returns-in-None
returns-in-None c =
    let e = sym c.as_str.ensures ∙ ap (option_map (λ s. s.now)) c.in-None.is in
    subst (λ (o : Option (List ℕ)). TellsValue (bits_told (fixed_by c.args.size.now) o (value_view c.args.json.now)) c.read_counted.result) (sym e) c.read_counted.ensures
