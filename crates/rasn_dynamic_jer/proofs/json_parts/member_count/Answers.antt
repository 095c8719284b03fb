use Rattle.std.proofs.Common.{◌∙◌, sym, ap, option_map}
use Rattle.json.specs.Value.{members_view}
use Rattle.rasn_dynamic_jer.specs.FromJson.{member_count}
use Rattle.rasn_dynamic_jer.proofs.Parts.{keys_count}
use Rattle.rasn_dynamic_jer.proofs.json_parts.member_count.Goals as goal

pub returns-in-Some : goal.returns-in-Some
returns-in-Some c = sym (ap member_count (sym c.members_of.ensures ∙ ap (option_map (λ s. members_view s.now)) c.in-Some.is) ∙ keys_count c.in-Some.members.now)

pub returns-in-None : goal.returns-in-None
returns-in-None c = sym (ap member_count (sym c.members_of.ensures ∙ ap (option_map (λ s. members_view s.now)) c.in-None.is))
