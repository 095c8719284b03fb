use Rattle.std.proofs.Common.{◌≡◌, ◌∙◌, sym, ap, Option, Some, option_map}
use Rattle.std.specs.Option.{option_and_then}
use Rattle.std.proofs.lemmas.Result.{err_from_is_err_and}
use Rattle.rasn_types.specs.Values.{octets}
use Rattle.json.specs.Find.{as_str}
use Rattle.json.specs.Value.{value_view}
use Rattle.rasn_dynamic_jer.specs.FromJson.{octets_in}
use Rattle.rasn_dynamic_jer.proofs.Untold.{octets_slot, untold_by}
use Rattle.rasn_dynamic_jer.proofs.read_simple.read_octets.Goals as goal

pub returns-in_err-octets : goal.returns-in_err-octets
returns-in_err-octets c =
    let p = err_from_is_err_and c.from_residual.result c.from_residual.ensures.1 in
    let e = sym c.as_str.ensures ∙ ap (option_map (λ s. s.now)) c.in-Some.is in
    rw (p.1, p.2) (untold_by _ _ _ (λ h. ap (λ o. option_map octets (option_and_then octets_in o)) e ∙ ap (option_map octets) h) c.in_err-octets.ensures)

pub returns : goal.returns
returns c =
    let e = sym c.as_str.ensures ∙ ap (option_map (λ s. s.now)) c.in-Some.is in
    ap (λ o. option_map Some (option_map octets (option_and_then octets_in o))) e
    ∙ ap (λ o. option_map Some (option_map octets o)) c.in_ok-octets.ensures
    ∙ ap (λ os. Some (Some (octets os))) (sym c.new.ensures)
    ∙ ap Some (sym (octets_slot c.new.result))
